use Rattle.jsonb_raw.proofs.Lemmas.{◌≡◌, ℤ, Bool, IsTrue, Option, Some, is_some, MatchOption, FitsSigned, rules, arith, Tree, IsWholeNumber}
use Rattle.std.proofs.Common.{w64}
use Rattle.jsonb_raw.proofs.raw.RawJsonb.is_i64.Goals as goal

is_whole : (tree : Tree) (found : Option ℤ) (b : Bool) → b ≡ is_some found → ((z : ℤ) → found ≡ Some z → FitsSigned w64 z)
    → MatchOption found ((z : ℤ) → IsWholeNumber tree z → FitsSigned w64 z → ⊥) (λ z. IsWholeNumber tree z)
    → (IsTrue b → (z : ℤ) × IsWholeNumber tree z × FitsSigned w64 z) × (((z : ℤ) × IsWholeNumber tree z × FitsSigned w64 z) → IsTrue b)
is_whole tree found b h e k = grind arith

pub returns-clause-kind : goal.returns-clause-kind
returns-clause-kind c = λ form tree d.
    is_whole tree c.in_ok-as_i64.field-0 c.is_some.result c.is_some.ensures (λ z found. first_of (search rules, grind arith))
    (c.in_ok-as_i64.ensures.value form tree d)
