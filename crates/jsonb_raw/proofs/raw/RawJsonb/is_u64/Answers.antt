use Rattle.jsonb_raw.proofs.Lemmas.{◌≡◌, ◌<◌, ◌^◌, ℕ, pos, Bool, IsTrue, Option, Some, is_some, MatchOption, rules, arith, Tree, IsWholeNumber}
use Rattle.jsonb_raw.proofs.raw.RawJsonb.is_u64.Goals as goal

is_whole : (tree : Tree) (found : Option ℕ) (b : Bool) → b ≡ is_some found → ((n : ℕ) → found ≡ Some n → n < 2 ^ 64)
    → MatchOption found ((n : ℕ) → IsWholeNumber tree (pos n) → n < 2 ^ 64 → ⊥) (λ n. IsWholeNumber tree (pos n))
    → (IsTrue b → (n : ℕ) × IsWholeNumber tree (pos n) × (n < 2 ^ 64)) × (((n : ℕ) × IsWholeNumber tree (pos n) × (n < 2 ^ 64)) → IsTrue b)
is_whole tree found b h e k = grind arith

pub returns-clause-kind : goal.returns-clause-kind
returns-clause-kind c = λ form tree d.
    is_whole tree c.in_ok-as_u64.field-0 c.is_some.result c.is_some.ensures (λ n found. first_of (search rules, grind arith))
    (c.in_ok-as_u64.ensures.value form tree d)
