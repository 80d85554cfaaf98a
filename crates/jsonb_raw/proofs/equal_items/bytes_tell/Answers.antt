use Rattle.jsonb_raw.proofs.Lemmas.{Some, sym, ◌∙◌, bytes_eq-Decides, equal_kind, same_tell, numbers_tell}
use Rattle.jsonb_raw.proofs.equal_items.bytes_tell.Goals as goal

pub returns-in-Some-Some : goal.returns-in-Some-Some
returns-in-Some-Some c = λ form other_form t u h k.
    numbers_tell form other_form _ _ t u h k (Some c.short_equal.result) c.in-Some-Some.number c.in-Some-Some.other c.in-Some-Some.ensures.kind
    (rw c.in-Some-Some.is-1 at c.requires.kind)
    c.in-Some-Some.ensures.number (rw c.in-Some-Some.is-1 at c.requires.number) c.short_equal.ensures

pub returns-then-eq : goal.returns-then-eq
returns-then-eq c = λ form other_form t u h k.
    same_tell form other_form _ _ t u h k (equal_kind _ c.args.entry.now.kind c.args.wanted.now.kind c.ne.ensures c.if-ne.false)
    ((bytes_eq-Decides _ _).0 (sym c.eq.ensures ∙ c.if-eq.true))
