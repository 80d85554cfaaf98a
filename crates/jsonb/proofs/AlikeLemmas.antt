-- Lists in which any test finds the same first item: what is computed from them is the same.
use Rattle.jsonb.proofs.Common.{◌≡◌, ℕ, ◌<◌, suc, zero, length, List, [], ◌∷◌, ◌++◌, map, flat_map, Bool, true, false, Option, Some, None, is_some, option_map, Ok, Err, refl, ◌∙◌, arith, find, slice_index_or, Contains, option_or, find-append, Outcome, try_flat_map, Error, AreAlike, AlikeOutcomes}

pub alike_itself : {A : Type 0} (xs : List A) → AreAlike xs xs
alike_itself xs = record { finds = λ test. refl }

pub alike_then : {A : Type 0} {xs ys zs : List A} → AreAlike xs ys → AreAlike ys zs → AreAlike xs zs
alike_then h g = record { finds = λ test. h.finds test ∙ g.finds test }

-- ---- the lists of all items, concatenated

-- what a test finds in the list of an item
abbrev found_in : {A B : Type 0} → (A → List B) → (B → Bool) → Option A → Option B
found_in f test (Some x) = find test (f x)
found_in f test None = None

abbrev finds_in : {A B : Type 0} → (A → List B) → (B → Bool) → A → Bool
finds_in f test x = is_some (find test (f x))

find-flat_map : {A B : Type 0} (f : A → List B) (test : B → Bool) (xs : List A) → find test (flat_map f xs) ≡ found_in f test (find (finds_in f test) xs)
find-flat_map f test [] = refl
find-flat_map f test (x ∷ xs) = grind (arith, find-flat_map f test xs, find-append)

pub alike_flat_map : {A B : Type 0} (f : A → List B) {xs ys : List A} → AreAlike xs ys → AreAlike (flat_map f xs) (flat_map f ys)
alike_flat_map f h = grind (arith, find-flat_map, h.finds)

-- of lists that are alike for each item
pub alike_each : {A B : Type 0} (f g : A → List B) (xs : List A) → ((x : A) → AreAlike (f x) (g x)) → AreAlike (flat_map f xs) (flat_map g xs)
alike_each f g [] each = alike_itself []
alike_each f g (x ∷ xs) each = grind (arith, find-append, alike_each f g xs each)

find-map : {A B : Type 0} (f : A → B) (test : B → Bool) (xs : List A) → find test (map f xs) ≡ option_map f (find (λ x. test (f x)) xs)
find-map f test [] = refl
find-map f test (x ∷ xs) = grind (arith, find-map f test xs)

pub alike_map : {A B : Type 0} (f : A → B) {xs ys : List A} → AreAlike xs ys → AreAlike (map f xs) (map f ys)
alike_map f h = grind (arith, find-map, h.finds)

-- ---- an item that is left out, since the list has it before

find-contained : {A : Type 0} (test : A → Bool) (xs : List A) (x : A) (k : ℕ) → k < length xs → slice_index_or xs k x ≡ x
    → (ys : List A) → option_or (find test xs) (find test (x ∷ ys)) ≡ option_or (find test xs) (find test ys)
find-contained test [] x k short is ys = absurd (omega arith)
find-contained test (w ∷ ws) x zero short is ys = grind arith
find-contained test (w ∷ ws) x (suc k) short is ys = grind (arith, find-contained test ws x k (omega arith) is ys)

pub alike_without : {A : Type 0} (xs ys : List A) (x : A) → Contains xs x → AreAlike (xs ++ ys) (xs ++ x ∷ ys)
alike_without xs ys x has = grind (arith, find-append, find-contained)

-- ---- functions that may fail: the first error is that of the first item that has one

abbrev list_of : {A : Type 0} → Outcome (List A) → List A
list_of (Ok xs) = xs
list_of (Err e) = []

abbrev fails : {A : Type 0} → Outcome A → Bool
fails (Ok x) = false
fails (Err e) = true

-- the lists of all items, or the error of the first item that has one
abbrev Ends : {A B : Type 0} → (A → Outcome (List B)) → List A → Option A → Outcome (List B) → Type 0
Ends f xs None outcome = outcome ≡ Ok (flat_map (λ x. list_of (f x)) xs)
Ends f xs (Some x) outcome = (e : Error) × (f x ≡ Err e) × (outcome ≡ Err e)

ends : {A B : Type 0} (f : A → Outcome (List B)) (xs : List A) → Ends f xs (find (λ x. fails (f x)) xs) (try_flat_map f xs)
ends f [] = refl
ends f (x ∷ xs) = grind (arith, ends f xs)

pub alike_results : {A B : Type 0} (f : A → Outcome (List B)) {xs ys : List A} → AreAlike xs ys → AlikeOutcomes (try_flat_map f xs) (try_flat_map f ys)
alike_results f {xs} {ys} h = grind (arith, ends f xs, ends f ys, h.finds, alike_flat_map)
