-- Entries as new documents.
use Rattle.jsonb_doc.proofs.Common.{◌≡◌, ℕ, suc, ◌≤◌, List, ◌∷◌, length, take, ap, arith, slice_range, take-take, take_rest}
pub use Rattle.jsonb_doc.proofs.CanonicalLemmas.{entry_decodes}

take_own : (m : ℕ) (xs : List ℕ) → take (length (take m xs)) xs ≡ take m xs
take_own (suc m) (x ∷ xs) = ap (λ (l : List ℕ). x ∷ l) (take_own m xs)
take_own _ _ = grind arith

-- the prefix of bytes that begin with a content is that content
pub front_is_content : (bytes content front : List ℕ) (start end n : ℕ) → content ≡ slice_range bytes start end
    → front ≡ take n (slice_range bytes start (length bytes)) → length content ≤ n → take (length content) front ≡ content
front_is_content bytes content front start end n h e k = grind (arith, take_rest, take-take, take_own)
