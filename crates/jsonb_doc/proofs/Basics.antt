-- Lemmas on lists, tests and results that do not mention documents, and on the keys and values of pairs.
use Rattle.jsonb_doc.proofs.Common.{◌≡◌, ℕ, suc, ◌*◌, ◌^◌, ◌<◌, ◌==◌, ◌||◌, Bool, true, false, List, [], ◌∷◌, ◌++◌, length, map, Ordering, Equal, Less, Result, MatchResult, IsOkAnd, IfOk, mul-pos, refl, ap, ◌∙◌, arith, reverse, ordering_then, slice_cmp, AllZip, keys_of, length-keys_of, one-le-pow, nat_tests, reverse-append, nat_list_cmp_total, nat_cmp_refl, exact_bytes, Tree, text, IsBelowFirst, IsOutOfMemory, Error, nat_cmp}

-- ---- tests

pub or_false : (b : Bool) → (b || false) ≡ b
or_false b = grind arith

pub or_second : (a b : Bool) → b ≡ true → (a || b) ≡ true
or_second a b h = grind arith

pub shuffled : (a b c d : Bool) → ((a || b) || (c || d)) ≡ ((a || c) || (b || d))
shuffled a b c d = grind arith

pub same_test : (a b : Bool) → (a ≡ true → b ≡ true) → (b ≡ true → a ≡ true) → a ≡ b
same_test a b h e = grind arith

-- ---- numbers

pub zero_of : (n : ℕ) → true ≡ (n == 0) → n ≡ 0
zero_of n e = grind (arith, nat_tests)

pub not_zero_of : (n : ℕ) → false ≡ (n == 0) → n ≡ 0 → ⊥
not_zero_of n e h = grind (arith, nat_tests)

pub scaled_pos : (n k : ℕ) → 0 < suc n * 10 ^ k
scaled_pos n k = mul-pos (omega arith) (one-le-pow k 10 (omega arith))

-- ---- orders

abbrev pub bytes_cmp : List ℕ → List ℕ → Ordering
bytes_cmp xs ys = slice_cmp nat_cmp xs ys

pub same_from_bytes_cmp : (xs ys : List ℕ) → bytes_cmp xs ys ≡ Equal → xs ≡ ys
same_from_bytes_cmp xs ys e = exact_bytes xs ys e

pub bytes_cmp_refl : (xs : List ℕ) → bytes_cmp xs xs ≡ Equal
bytes_cmp_refl [] = refl
bytes_cmp_refl (x ∷ xs) = rw (nat_cmp_refl x) (bytes_cmp_refl xs)

pub both_equal : (a b : Ordering) → ordering_then a b ≡ Equal → (a ≡ Equal) × (b ≡ Equal)
both_equal a b h = grind arith

pub below_next : (low key : List ℕ) (ks : List (List ℕ)) → slice_cmp nat_cmp low key ≡ Less → IsBelowFirst key ks → IsBelowFirst low ks
below_next low key [] less below = tt
below_next low key (next ∷ ks) less below = nat_list_cmp_total.trans low key next less below

-- ---- lists

pub empty_of : {A : Type 0} (xs : List A) → length xs ≡ 0 → xs ≡ []
empty_of [] h = refl
empty_of (x ∷ xs) h = absurd (omega (arith, h))

pub innermost : {A : Type 0} (xs : List A) (x : A) → reverse (xs ++ x ∷ []) ≡ x ∷ reverse xs
innermost xs x = reverse-append xs (x ∷ [])

pub zip_along : {A B : Type 0} (R S : A → B → Type 0) → ((x : A) (y : B) → R x y → S x y) → (xs : List A) (ys : List B) → AllZip R xs ys → AllZip S xs ys
zip_along R S along (x ∷ xs) (y ∷ ys) h = (along x y h.0, zip_along R S along xs ys h.1)
zip_along _ _ along _ _ h = grind arith

pub zip_more : {A B : Type 0} (R : A → B → Type 0) (xs : List A) (ys : List B) (x : A) (y : B) → AllZip R xs ys → R x y
    → AllZip R (xs ++ x ∷ []) (ys ++ y ∷ [])
zip_more R [] [] x y h last = (last, tt)
zip_more R (a ∷ xs) (b ∷ ys) x y h last = (h.0, zip_more R xs ys x y h.1 last)
zip_more R _ _ x y h last = absurd h

-- ---- stacks, whose innermost is the last

pub pushed : {A B : Type 0} (R : A → B → Type 0) (around around' : List A) (outer : A) (l : B) (ls : List B) → around' ≡ around ++ outer ∷ [] → R outer l
    → AllZip R (reverse around) ls → AllZip R (reverse around') (l ∷ ls)
pushed R around around' outer l ls h e k = grind (arith, innermost)

pub popped : {A B : Type 0} (R : A → B → Type 0) (all others : List A) (outer : A) (ls : List B) → AllZip R (reverse all) ls → all ≡ others ++ outer ∷ []
    → (l : B) × (rest : List B) × (ls ≡ l ∷ rest) × R outer l × AllZip R (reverse others) rest
popped R all others outer ls h e = grind (arith, innermost)

pub none_around : {A B : Type 0} (R : A → B → Type 0) (around : List A) (ls : List B) → around ≡ [] → AllZip R (reverse around) ls → ls ≡ []
none_around R around ls h e = grind arith

-- ---- keys and values

pub many_texts : (ks : List (List ℕ)) → length (map text ks) ≡ length ks
many_texts [] = refl
many_texts (k ∷ ks) = ap suc (many_texts ks)

pub many_keys : (qs : List (List ℕ × Tree)) → length (map text (keys_of qs)) ≡ length qs
many_keys qs = many_texts (keys_of qs) ∙ length-keys_of qs

-- ---- results

pub only_ok : {A : Type 0} (P : A → Type 0) (Q : Error → Type 0) (r : Result A Error) → IsOkAnd r P → MatchResult r P Q
only_ok P Q r h = grind arith

pub if_answered : {A : Type 0} (P : A → Type 0) (r : Result A Error) → MatchResult r P IsOutOfMemory → IfOk r P
if_answered P r h = grind arith
