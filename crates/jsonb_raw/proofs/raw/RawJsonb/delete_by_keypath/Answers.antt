use Rattle.jsonb_raw.proofs.Lemmas.{rules, sym, ◌∙◌, err_from_is_err_and, Decodes, empty_of, keys_view, AreShort, refl, no_place, some_place, no_way, same_decodes, without_part, part_met, part_out}
use Rattle.jsonb_raw.proofs.CutLemmas.{without_none}
use Rattle.jsonb_raw.proofs.raw.RawJsonb.delete_by_keypath.Goals as goal

pub without_child-requires : goal.without_child-requires
without_child-requires c = search (rules, AreShort)

pub returns-in_err-parents-clause-without : goal.returns-in_err-parents-clause-without
returns-in_err-parents-clause-without g c = λ left tells form t d other.
    let p = err_from_is_err_and c.from_residual-in_err-parents.result c.from_residual-in_err-parents.ensures.1 in
    rw (p.1, p.2) (c.in_err-parents.ensures.place left tells form t (rw c.as_bytes-bytes.ensures d))

pub returns-in_err-parents-clause-same : goal.returns-in_err-parents-clause-same
returns-in_err-parents-clause-same g c = λ left tells form t d other none.
    let p = err_from_is_err_and c.from_residual-in_err-parents.result c.from_residual-in_err-parents.ensures.1 in
    rw (p.1, p.2) (c.in_err-parents.ensures.place left tells form t (rw c.as_bytes-bytes.ensures d))

pub returns-in_default-clause-without : goal.returns-in_default-clause-without
returns-in_default-clause-without g c = λ left tells form t d other.
    let d' : Decodes form c.as_bytes-bytes.result.now t = rw c.as_bytes-bytes.ensures d in
    let none = no_place form t _ (rw c.in_default.is at (c.in_ok-parents.ensures.place left tells form t d')) in
    same_decodes form _ t _ _ (without_none (keys_view (left c.args.steps)) t none) d' c.copy_of.ensures.same

pub returns-in_default-split_first-clause-without : goal.returns-in_default-split_first-clause-without
returns-in_default-split_first-clause-without g c = λ left tells form t d other.
    let d' : Decodes form c.as_bytes-bytes.result.now t = rw c.as_bytes-bytes.ensures d in
    let place = some_place form t c.in-Some.parents _ (rw c.in-Some.is at (c.in_ok-parents.ensures.place left tells form t d')) in
    let empty = no_way form _ _ t (sym c.as_slice.ensures.value ∙ empty_of _ c.in_default-split_first.ensures.cases) place.2 in
    same_decodes form _ t _ _ (rw (place.1, empty) refl) d' c.copy_of-in_default-split_first.ensures.same

pub returns-in_err-document-clause-without : goal.returns-in_err-document-clause-without
returns-in_err-document-clause-without g c = λ left tells form t d other.
    let p = err_from_is_err_and c.from_residual-in_err-document.result c.from_residual-in_err-document.ensures.1 in
    let d' : Decodes form c.as_bytes-bytes.result.now t = rw c.as_bytes-bytes.ensures d in
    let split = sym c.as_slice.ensures.value ∙ c.in-Some-split_first.ensures.cases.0 in
    let o = part_out form t c.in-Some.parents _ _ _ split (rw c.in-Some.is at (c.in_ok-parents.ensures.place left tells form t d')) in
    rw (p.1, p.2) (c.in_err-document.ensures.without form t o.end o.n o.ns o.led)

pub returns-in_err-document-clause-same : goal.returns-in_err-document-clause-same
returns-in_err-document-clause-same g c = λ left tells form t d other none.
    let d' : Decodes form c.as_bytes-bytes.result.now t = rw c.as_bytes-bytes.ensures d in
    let split = sym c.as_slice.ensures.value ∙ c.in-Some-split_first.ensures.cases.0 in
    let o = part_out form t c.in-Some.parents _ _ _ split (rw c.in-Some.is at (c.in_ok-parents.ensures.place left tells form t d')) in
    absurd (part_met (keys_view (left c.args.steps)) t o.n o.ns o.is none)

pub returns-clause-without : goal.returns-clause-without
returns-clause-without g c = λ left tells form t d other.
    let d' : Decodes form c.as_bytes-bytes.result.now t = rw c.as_bytes-bytes.ensures d in
    let split = sym c.as_slice.ensures.value ∙ c.in-Some-split_first.ensures.cases.0 in
    let o = part_out form t c.in-Some.parents _ _ _ split (rw c.in-Some.is at (c.in_ok-parents.ensures.place left tells form t d')) in
    (rw ((without_part (keys_view (left c.args.steps)) t o.n o.ns o.is), c.new.ensures) (c.in_ok-document.ensures.without form t o.end o.n o.ns o.led))

pub returns-clause-same : goal.returns-clause-same
returns-clause-same g c = λ left tells form t d other none.
    let d' : Decodes form c.as_bytes-bytes.result.now t = rw c.as_bytes-bytes.ensures d in
    let split = sym c.as_slice.ensures.value ∙ c.in-Some-split_first.ensures.cases.0 in
    let o = part_out form t c.in-Some.parents _ _ _ split (rw c.in-Some.is at (c.in_ok-parents.ensures.place left tells form t d')) in
    absurd (part_met (keys_view (left c.args.steps)) t o.n o.ns o.is none)
