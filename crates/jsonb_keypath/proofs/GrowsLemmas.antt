-- No token and no key lengthens the input.
use Rattle.jsonb_keypath.proofs.Common.{◌≡◌, ℕ, ◌<◌, ◌≤◌, ◌^◌, List, [], ◌∷◌, length, drop, refl, arith, prefix_len, ◌+◌, nat_lt, Bool, true, false, cond, take_while, is_ascii_digit, digits_value, nat_tests, length-drop, with_sign, Rule, only_if, literal, past, is_space, ws, sign, natural, natural_below, integer, integer_within, is_within, int32, name, quoted, is_stop, is_quote, unit, key, index, quoted_name, unquoted_name, spaced_key, another_key, ReadsSome, IsRun}
use Rattle.jsonb_keypath.proofs.ReadsLemmas.{NeverGrows, given, some-no_more, grows-give, grows-then, some-then, then-some, grows-choice, some-choice, grows-only_if}
use Rattle.jsonb_keypath.proofs.CutLemmas.{nothing, some-literal, some-unit, name-cut, quoted-cut}

prefix_len-le : (test : ℕ → Bool) (input : List ℕ) → prefix_len test input ≤ length input
prefix_len-le test [] = omega arith
prefix_len-le test (b ∷ input) = go (test b) (prefix_len-le test input) where
  go : (t : Bool) → prefix_len test input ≤ length input → cond t (1 + prefix_len test input) 0 ≤ length (b ∷ input)
  go true h = omega arith
  go false h = omega arith

no_longer : (test : ℕ → Bool) (input : List ℕ) → length (past test input) ≤ length input
no_longer test input = rw (length-drop (prefix_len test input) input) (omega arith)

pub grows-ws : NeverGrows ws
unfolding ws
grows-ws input u rest e = rw (← (given tt u (past is_space input) rest e).1) (no_longer is_space input)

grows-sign : NeverGrows sign
unfolding sign
grows-sign =
    grows-choice _ _ (grows-then (literal "-") _ (some-no_more (literal "-") (some-literal 45 [])) (λ _. grows-give true))
    (grows-choice _ _ (grows-then (literal "+") _ (some-no_more (literal "+") (some-literal 43 [])) (λ _. grows-give false)) (grows-give false))

shorter : (n : ℕ) (input : List ℕ) → 0 < n → n ≤ length input → length (drop n input) < length input
shorter n input some fits = rw (length-drop n input) (omega arith)

pub run-no_more : {A : Type 0} (rule : Rule A) → ReadsSome rule → (input : List ℕ) (values : List A) (rest : List ℕ)
    → IsRun rule input values rest → length rest ≤ length input
run-no_more rule reads input [] rest h = rw h (omega arith)
run-no_more rule reads input (a ∷ values) rest h =
    let first = reads input a h.0 h.1 in
    let others = run-no_more rule reads h.0 values rest h.2 in
    omega (arith, first, others)

run-some : (e : ℕ → Bool) (input : List ℕ) (texts : List (List ℕ)) (rest : List ℕ) → 0 < length texts → IsRun (unit e) input texts rest
    → length rest < length input
run-some e input [] rest some h = absurd (omega arith)
run-some e input (t ∷ texts) rest some h =
    let first = some-unit e input t h.0 h.1 in
    let others = run-no_more (unit e) (some-unit e) h.0 texts rest h.2 in
    omega (arith, first, others)

pub some-name : ReadsSome name
some-name input found rest e = let cut = name-cut input found rest e in run-some is_stop input cut.0.0 rest cut.0.1 cut.0.2

pub some-quoted : ReadsSome quoted
some-quoted input found rest e =
    let cut = quoted-cut input found rest e in
    let inside : length (34 ∷ rest) < length cut.0 = run-some is_quote cut.0 cut.2.0 (34 ∷ rest) cut.2.1 cut.2.2 in
    rw cut.1 (omega (arith, inside))

some-natural : ReadsSome natural
unfolding natural
some-natural input n rest e = go (nat_lt 0 (prefix_len is_ascii_digit input)) refl where
  go : (t : Bool) → nat_lt 0 (prefix_len is_ascii_digit input) ≡ t → length rest < length input
  go true at =
      let same = given (digits_value 10 (take_while is_ascii_digit input)) n (past is_ascii_digit input) rest (rw at at e) in
      rw (← same.1) (shorter (prefix_len is_ascii_digit input) input (grind (arith, nat_tests)) (prefix_len-le is_ascii_digit input))
  go false at = absurd (nothing n rest (rw at at e))

pub some-integer_within : (bound : ℕ) → ReadsSome (integer_within bound)
unfolding integer_within integer
some-integer_within bound =
    some-then integer _ (then-some sign _ grows-sign (λ negative. some-then natural _ some-natural (λ n. grows-give (with_sign negative n))))
    (λ z. grows-then (only_if (is_within bound z)) _ (grows-only_if (is_within bound z)) (λ _. grows-give z))

pub some-key : ReadsSome key
unfolding key
some-key =
    some-choice _ _ (some-then int32 _ (some-integer_within (2 ^ 31)) (λ i. grows-give (index i)))
    (some-choice _ _ (some-then quoted _ some-quoted (λ found. grows-give (quoted_name found)))
    (some-then name _ some-name (λ found. grows-give (unquoted_name found))))

pub some-spaced_key : ReadsSome spaced_key
unfolding spaced_key
some-spaced_key = then-some ws _ grows-ws (λ _. some-then key _ some-key (λ k. grows-then ws _ grows-ws (λ _. grows-give k)))

pub some-another_key : ReadsSome another_key
some-another_key = some-then (literal ",") _ (some-literal 44 []) (λ _. some-no_more spaced_key some-spaced_key)

pub some-natural_below : (bound : ℕ) → ReadsSome (natural_below bound)
unfolding natural_below
some-natural_below bound = some-then natural _ some-natural (λ n. grows-then (only_if (nat_lt n bound)) _ (grows-only_if (nat_lt n bound)) (λ _. grows-give n))
