use Rattle.jsonb.proofs.Lemmas.{◌≡◌, ℕ, List, [], ◌∷◌, length, arith, sym, ◌∙◌, Locates, Tree, AllZip}
use Rattle.jsonb.proofs.selector.children.child_items.Goals as goal

none_given : (bytes : List ℕ) (ts : List Tree) → length ts ≡ 0 → AllZip (Locates bytes) [] ts
none_given bytes [] h = tt
none_given bytes (t ∷ ts) h = absurd (omega (arith, h))

pub returns-then-len-eq0 : goal.returns-then-len-eq0
returns-then-len-eq0 c = λ bytes ts h. none_given bytes ts (sym (c.len.ensures bytes ts h) ∙ c.if-len-eq0.true)
