-- Tokens as cuts of the input.
use Rattle.jsonb_keypath.proofs.Common.{◌≡◌, ℕ, ◌<◌, List, [], ◌∷◌, ◌++◌, length, drop, Bool, true, false, cond, Some, None, refl, ap, ◌∙◌, subst, arith, nat_eq, ◌==◌, ◌+◌, ◌*◌, not, Option, encode_utf8, concat, starts_with, is_utf8, is_high_surrogate, is_low_surrogate, surrogate_pair_char, length-drop, nat_tests, Parsed, Rule, give, ◌>>◌, only_if, literal, bytes, repeat, unit, units, text, name, quoted, escape, escaped, unicode_escape, code_unit, four_hex_digits, hex_digit, byte_as, is_unescaped, is_stop, is_quote, ahead, ReadsSome, IsRun, IsText}
use Rattle.jsonb_keypath.proofs.TextLemmas.{unit-byte, unit-end}
use Rattle.jsonb_keypath.proofs.ReadsLemmas.{NeverGrows, parts, given, passed, some-no_more, grows-give, grows-then, some-then, some-choice, grows-choice, grows-only_if, repeat-repeated, repeated-repeat}

-- ---- each unit reads a byte at least

pub nothing : {A : Type 0} (a : A) (rest : List ℕ) → ◌≡◌ {A = Parsed A} None (Some (a, rest)) → ⊥
nothing a rest e = cc

pub some-byte_as : {A : Type 0} (value : ℕ → Option A) → ReadsSome (byte_as value)
some-byte_as value [] a rest e = cc
some-byte_as {A} value (b ∷ input) a rest e = go (value b) refl where
  go : (o : Option A) → value b ≡ o → length rest < length (b ∷ input)
  go None at = absurd (nothing a rest (rw at at e))
  go (Some x) at = rw (← (given x a input rest (rw at at e)).1) (omega arith)

shorter : (n : ℕ) (input : List ℕ) → 0 < n → 0 < length input → length (drop n input) < length input
shorter n input some more = rw (length-drop n input) (omega arith)

pub some-literal : (b : ℕ) (text : List ℕ) → ReadsSome (bytes (b ∷ text))
some-literal b text [] a rest e = cc
some-literal b text (c ∷ input) a rest e = go (starts_with nat_eq (c ∷ input) (b ∷ text)) refl where
  go : (t : Bool) → starts_with nat_eq (c ∷ input) (b ∷ text) ≡ t → length rest < length (c ∷ input)
  go true at = rw (← (given tt a (drop (length (b ∷ text)) (c ∷ input)) rest (rw at at e)).1)
      (shorter (length (b ∷ text)) (c ∷ input) (omega arith) (omega arith))
  go false at = absurd (nothing a rest (rw at at e))

grows-if : {A : Type 0} (test : Bool) (first second : Rule A) → NeverGrows first → NeverGrows second → NeverGrows (cond test first second)
grows-if true first second h k = h
grows-if false first second h k = k

some-hex_digit : ReadsSome hex_digit
some-hex_digit = some-byte_as _

some-four_hex_digits : ReadsSome four_hex_digits
unfolding four_hex_digits
some-four_hex_digits =
    some-then hex_digit _ some-hex_digit (λ a. grows-then hex_digit _ (some-no_more hex_digit some-hex_digit)
    (λ b. grows-then hex_digit _ (some-no_more hex_digit some-hex_digit) (λ c.
    grows-then hex_digit _ (some-no_more hex_digit some-hex_digit) (λ d. grows-give (((a * 16 + b) * 16 + c) * 16 + d)))))

some-code_unit : ReadsSome code_unit
unfolding code_unit
some-code_unit =
    some-then (literal "\\u") _ (some-literal 92 (117 ∷ [])) (λ _. grows-choice _ four_hex_digits
    (grows-then (literal "{") _ (some-no_more (literal "{") (some-literal 123 [])) (λ _. grows-then four_hex_digits _
    (some-no_more four_hex_digits some-four_hex_digits) (λ n.
    grows-then (literal "}") _ (some-no_more (literal "}") (some-literal 125 [])) (λ _. grows-give n))))
    (some-no_more four_hex_digits some-four_hex_digits))

some-unicode_escape : ReadsSome unicode_escape
unfolding unicode_escape
some-unicode_escape =
    some-then code_unit _ some-code_unit (λ n. grows-if (is_high_surrogate n) _ _
    (grows-then code_unit _ (some-no_more code_unit some-code_unit)
    (λ low. grows-then (only_if (is_low_surrogate low)) _ (grows-only_if (is_low_surrogate low)) (λ _. grows-give (surrogate_pair_char n low))))
    (grows-then (only_if (not (is_low_surrogate n))) _ (grows-only_if (not (is_low_surrogate n))) (λ _. grows-give n)))

some-escape : ReadsSome escape
unfolding escape
some-escape =
    some-choice _ unicode_escape (some-then (literal "\\") _ (some-literal 92 []) (λ _. some-no_more (byte_as escaped) (some-byte_as escaped)))
    some-unicode_escape

pub some-unit : (e : ℕ → Bool) → ReadsSome (unit e)
unfolding unit
some-unit e = some-choice _ _ (some-then escape _ some-escape (λ c. grows-give (encode_utf8 c)))
    (some-byte_as (λ b. cond (is_unescaped e b) (Some (b ∷ [])) None))

-- ---- runs of units

-- the longest run is a cut
text-cut : (e : ℕ → Bool) (input found rest : List ℕ) → text e input ≡ Some (found, rest) → IsText e input found rest
unfolding text units
text-cut e input found rest h =
    let whole = parts (units e) _ input found rest h in
    let valid = passed (is_utf8 whole.0) (give whole.0) whole.1 found rest whole.3 in
    let same = given whole.0 found whole.1 rest valid.1 in
    let first = parts (unit e) _ input whole.0 whole.1 whole.2 in
    let others = parts (repeat (unit e)) _ first.1 whole.0 whole.1 first.3 in
    let joined_up = given (first.0 ++ concat others.0) whole.0 others.1 whole.1 others.3 in
    let ran : IsRun (unit e) first.1 others.0 others.1 = (repeated-repeat (unit e) (some-unit e) first.1 others.0 others.1 others.2).0 in (
      first.0 ∷ others.0,
      omega arith,
      (first.1, first.2, subst (IsRun (unit e) first.1 others.0) (joined_up.1 ∙ same.1) ran),
      joined_up.0 ∙ same.0,
      rw same.0 at valid.0,
    )

-- a cut before which there is no unit is the longest run
cut-text : (e : ℕ → Bool) (input found rest : List ℕ) → IsText e input found rest → unit e rest ≡ None → text e input ≡ Some (found, rest)
unfolding text units
cut-text e input found rest cut ends = go cut.0 cut.1 cut.2 cut.3 where
  go : (texts : List (List ℕ)) → 0 < length texts → IsRun (unit e) input texts rest → concat texts ≡ found → text e input ≡ Some (found, rest)
  go [] some ran same = absurd (omega arith)
  go (t ∷ texts) some ran same =
      let others : repeat (unit e) ran.0
      ≡ Some (texts, rest) = repeat-repeated (unit e) (some-unit e) ran.0 texts rest (ran.2, ends) in
      let valid : is_utf8 (t ++ concat texts) ≡ true = rw same cut.4 in
      rw (ran.1, others, valid) (ap (λ (found : List ℕ). Some (found, rest)) same)

-- ---- names

-- empty, or beginning with a byte that passes the test
abbrev is_at : (ℕ → Bool) → List ℕ → Bool
is_at test [] = true
is_at test (b ∷ rest) = test b

-- a name: units, and then the end or a stop byte
abbrev pub IsNameCut : List ℕ → List ℕ → List ℕ → Type 0
IsNameCut input text rest = IsText is_stop input text rest × (ahead is_stop rest ≡ Some (tt, rest))

stop_is_no_backslash : (b : ℕ) → is_stop b ≡ true → (b == 92) ≡ false
stop_is_no_backslash b h = grind (arith, nat_tests)

unit-at_stop : (rest : List ℕ) → is_at is_stop rest ≡ true → unit is_stop rest ≡ None
unit-at_stop [] h = unit-end is_stop
unit-at_stop (b ∷ rest) h = unit-byte is_stop b rest (stop_is_no_backslash b h) ∙ rw (h, stop_is_no_backslash b h) refl

ahead-is_at : (test : ℕ → Bool) (input : List ℕ) (u : Unit {0}) (rest : List ℕ) → ahead test input ≡ Some (u, rest) → (is_at test input ≡ true) × (input ≡ rest)
ahead-is_at test [] u rest e = (refl, (given tt u [] rest e).1)
ahead-is_at test (b ∷ input) u rest e = let p = passed (test b) (give tt) (b ∷ input) u rest (again (test b) e) in
    (p.0, (given tt u (b ∷ input) rest p.1).1) where
      again : (t : Bool) → cond {A = Parsed (Unit {0})} t (Some (tt, b ∷ input)) None ≡ Some (u, rest) → (only_if t >> give tt) (b ∷ input) ≡ Some (u, rest)
      again true e' = e'
      again false e' = cc

is_at-ahead : (test : ℕ → Bool) (rest : List ℕ) → is_at test rest ≡ true → ahead test rest ≡ Some (tt, rest)
is_at-ahead test [] h = refl
is_at-ahead test (b ∷ rest) h = rw h refl

pub name-cut : (input found rest : List ℕ) → name input ≡ Some (found, rest) → IsNameCut input found rest
unfolding name
name-cut input found rest h =
    let whole = parts (text is_stop) _ input found rest h in
    let end = parts (ahead is_stop) _ whole.1 found rest whole.3 in
    let at = ahead-is_at is_stop whole.1 end.0 end.1 end.2 in
    let same = given whole.0 found end.1 rest end.3 in
    let cut = text-cut is_stop input whole.0 whole.1 whole.2 in (
      subst (λ (f : List ℕ). IsText is_stop input f rest) same.0 (subst (IsText is_stop input whole.0) (at.1 ∙ same.1) cut),
      is_at-ahead is_stop rest (subst (λ (r : List ℕ). is_at is_stop r ≡ true) (at.1 ∙ same.1) at.0),
    )

pub cut-name : (input found rest : List ℕ) → IsNameCut input found rest → name input ≡ Some (found, rest)
unfolding name
cut-name input found rest cut =
    rw (cut-text is_stop input found rest cut.0 (unit-at_stop rest (ahead-is_at is_stop rest tt rest cut.1).0), cut.1) refl

-- ---- quoted strings

-- a quoted text: a quote, units, a quote, and then the rest
abbrev pub IsQuotedCut : List ℕ → List ℕ → List ℕ → Type 0
IsQuotedCut input text rest = (inside : List ℕ) × (input ≡ 34 ∷ inside) × IsText is_quote inside text (34 ∷ rest)

quote-inside : (input : List ℕ) (u : Unit {0}) (rest : List ℕ) → literal "\"" input ≡ Some (u, rest) → input ≡ 34 ∷ rest
quote-inside [] u rest e = cc
quote-inside (b ∷ input) u rest e = go (34 == b) refl where
  go : (t : Bool) → (34 == b) ≡ t → b ∷ input ≡ 34 ∷ rest
  go true at = let same : b ≡ 34 = grind (arith, nat_tests) in rw (same, (given tt u input rest (rw at at e)).1) refl
  go false at = absurd (nothing u rest (rw at at e))

pub quoted-cut : (input found rest : List ℕ) → quoted input ≡ Some (found, rest) → IsQuotedCut input found rest
unfolding quoted
quoted-cut input found rest h =
    let opened = parts (literal "\"") _ input found rest h in
    let inside = parts (text is_quote) _ opened.1 found rest opened.3 in
    let close = parts (literal "\"") _ inside.1 found rest inside.3 in
    let same = given inside.0 found close.1 rest close.3 in
    let at : inside.1 ≡ 34 ∷ rest = quote-inside inside.1 close.0 close.1 close.2 ∙ ap (λ (r : List ℕ). 34 ∷ r) same.1 in
    let cut = text-cut is_quote opened.1 inside.0 inside.1 inside.2 in (
      opened.1,
      quote-inside input opened.0 opened.1 opened.2,
      subst (λ (f : List ℕ). IsText is_quote opened.1 f (34 ∷ rest)) same.0
          (subst (IsText is_quote opened.1 inside.0) at cut),
    )

pub cut-quoted : (input found rest : List ℕ) → IsQuotedCut input found rest → quoted input ≡ Some (found, rest)
unfolding quoted
cut-quoted input found rest cut =
    let inside = cut-text is_quote cut.0 found (34 ∷ rest) cut.2 (unit-byte is_quote 34 rest refl) in
    rw (cut.1, inside) refl
