-- Text that one part is appended to.
use Rattle.jsonb.proofs.Common.{◌≡◌, ℕ, ◌+◌, ◌/◌, ◌%◌, ◌<◌, List, [], ◌∷◌, ◌++◌, length, get_or, take, refl, sym, ap, ◌∙◌, append_assoc, flat_map, slice_index, encode_with, encode_lower, lower_digits, flat_map_more, take_more, step_text, steps_text, path_text, Step, steps_of, step_view, steps_view, Path}
use Rattle.std.proofs.lemmas.List.{append-nil}

-- the text of one more element of a list
pub text_of_one_more : {X : Type 0} (text : X → List ℕ) (xs : List X) (i : ℕ) (d : X) → i < length xs →
    flat_map text (take i xs) ++ text (get_or xs i d) ≡ flat_map text (take (i + 1) xs)
text_of_one_more text xs i d h = flat_map_more text [] (take i xs) (get_or xs i d) ∙ ap (flat_map text) (sym (take_more xs i d h))

encode_lower-more : (xs : List ℕ) (b : ℕ) → encode_lower xs ++ encode_lower (b ∷ []) ≡ encode_lower (xs ++ b ∷ [])
unfolding encode_with
encode_lower-more [] b = refl
encode_lower-more (x ∷ xs) b = ap (λ (rest : List ℕ). slice_index lower_digits (x / 16) ∷ slice_index lower_digits (x % 16) ∷ rest) (encode_lower-more xs b)

-- the hexadecimal text of one more byte
pub encode_lower-take_more : (xs : List ℕ) (i : ℕ) (d : ℕ) → i < length xs →
    encode_lower (take i xs) ++ encode_lower (get_or xs i d ∷ []) ≡ encode_lower (take (i + 1) xs)
encode_lower-take_more xs i d h = encode_lower-more (take i xs) (get_or xs i d) ∙ ap encode_lower (sym (take_more xs i d h))

steps_text-more : (xs : List Path) (x : Path) → steps_text (steps_of (steps_view xs)) ++ step_text (step_view x) ≡ steps_text (steps_of
    (steps_view (xs ++ x ∷ [])))
steps_text-more [] x = sym (append-nil (step_text (step_view x)))
steps_text-more (y ∷ ys) x = append_assoc (step_text (step_view y)) _ _ ∙ ap (λ bs. step_text (step_view y) ++ bs) (steps_text-more ys x)

-- the text of one more step
pub steps_text-take_more : (xs : List Path) (i : ℕ) (d : Path) → i < length xs →
    steps_text (steps_of (steps_view (take i xs))) ++ step_text (step_view (get_or xs i d)) ≡ steps_text (steps_of (steps_view (take (i + 1) xs)))
steps_text-take_more xs i d h = steps_text-more (take i xs) (get_or xs i d) ∙ ap (λ ys. steps_text (steps_of (steps_view ys))) (sym (take_more xs i d h))

-- the steps of a path, one after the other
pub steps_text-path : (steps : List Step) → steps_text (steps_of steps) ≡ path_text steps
steps_text-path [] = refl
steps_text-path (s ∷ ss) = ap (λ bs. step_text s ++ bs) (steps_text-path ss)
