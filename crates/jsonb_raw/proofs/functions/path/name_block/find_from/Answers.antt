use Rattle.jsonb_raw.proofs.Lemmas.{arith, ◌≡◌, [], true≢false, slice_index_or, contents_of, sym, ◌∙◌, name_read, not_free, eq-or-lt_of_le, ⊎_elim}
use Rattle.jsonb_raw.proofs.functions.path.name_block.find_from.Goals as goal

pub returns-in_err-name-clause-placed : goal.returns-in_err-name-clause-placed
returns-in_err-name-clause-placed c = λ p.
    absurd (omega (arith, c.in_err-name.ensures.lookup.3, not_free _ _ _ c.loop-place.place p (omega (arith, c.requires.first, c.loop-place.auto.place)) (c.loop-place.invariant p)))

pub returns-then-bytes_equal-clause-found : goal.returns-then-bytes_equal-clause-found
returns-then-bytes_equal-clause-found c =
    let item = c.in_ok-name.ensures.lookup in
    let name = name_read _ _ c.in_ok-name.name.now item.3.0 item.1 in (name.0, name.1 ∙ c.bytes_equal.ensures.0 c.if-bytes_equal.true)

pub loop-place-preserved : goal.loop-place-preserved
loop-place-preserved c = λ p.
    let item = c.in_ok-name.ensures.lookup in
    let name = name_read _ _ c.in_ok-name.name.now item.3.0 item.1 in
    ⊎_elim (λ e.
    let same : slice_index_or (contents_of c.args.names.now) c.from-at.result [] ≡ c.args.text.now = rw c.from-at.ensures (rw e p.name.1) in
    absurd (true≢false (sym (c.bytes_equal.ensures.1 (sym name.1 ∙ same)) ∙ c.if-bytes_equal.false)))
    (λ less. omega (arith, less)) (eq-or-lt_of_le (c.loop-place.invariant p))

pub returns-clause-placed : goal.returns-clause-placed
returns-clause-placed c = λ p. absurd (omega (arith, p.high, c.loop-place.invariant p, c.loop-place-test.false, c.requires.first))
