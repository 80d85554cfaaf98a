use Rattle.jsonb_raw.proofs.Lemmas.{arith, ◌≡◌, Some, length, sym, ap, ◌∙◌, w32, remove, to_z-of_z, array, elements, trees_of, HoldTrees, index_position, without_index, refl, array_of_entries}
use Rattle.jsonb_raw.proofs.raw.RawJsonb.delete_by_index.Goals as goal

pub returns-in-Some-index_position-clause-deleted : goal.returns-in-Some-index_position-clause-deleted
returns-in-Some-index_position-clause-deleted c = λ form t d.
    let o = array_of_entries form t _ _ c.in-Some.is (c.in_ok-entries.ensures.entries form t (rw c.as_bytes-bytes.ensures d)) in
    let found : index_position (length (elements o.0)) c.args.index ≡ Some c.in-Some-index_position.position = grind (arith, to_z-of_z) in
    let is : without_index c.args.index t
    ≡ Some (array (trees_of (remove (elements o.0) c.in-Some-index_position.position))) = ap (without_index c.args.index) o.1
    ∙ rw found refl in
    rw is (c.array_without_element.ensures.deleted form (elements o.0) o.2)

pub returns-in_err-entries-clause-unchanged : goal.returns-in_err-entries-clause-unchanged
returns-in_err-entries-clause-unchanged c = λ form ts d none.
    absurd (c.in_err-entries.ensures.entries form (array ts) (rw c.as_bytes-bytes.ensures d))

pub returns-in_default-clause-unchanged : goal.returns-in_default-clause-unchanged
returns-in_default-clause-unchanged c = λ form ts d none.
    absurd (rw c.in_default.is at (c.in_ok-entries.ensures.entries form (array ts) (rw c.as_bytes-bytes.ensures d)))

pub returns-in-Some-index_position-clause-unchanged : goal.returns-in-Some-index_position-clause-unchanged
returns-in-Some-index_position-clause-unchanged c = λ form ts d none.
    let left : HoldTrees form c.in-Some.entries (elements ts) = rw c.in-Some.is at (c.in_ok-entries.ensures.entries form (array ts) (rw c.as_bytes-bytes.ensures d)) in
    let found : index_position (length (elements ts)) c.args.index ≡ Some c.in-Some-index_position.position =
    ap (λ n. index_position n c.args.index) (sym (c.entry_count.ensures form (elements ts) left))
    ∙ ap (index_position c.entry_count.result) (sym (to_z-of_z w32 c.args.index c.ranges.index)) ∙ sym c.index_position.ensures ∙ c.in-Some-index_position.is in
    absurd (cc (found, none))
