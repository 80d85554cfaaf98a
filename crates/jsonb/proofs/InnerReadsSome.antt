-- An index entry and a step without an expression read a byte at least.
use Rattle.jsonb.proofs.Common.{ℕ, ◌^◌, List, [], ◌∷◌, Some, None, arith, common_steps, codes, Rule, ◌>>=◌, ◌>>◌, ◌</>◌, optional, literal, ws, ReadsSome, NeverGrows, some-no_more, grows-give, grows-then, some-then, then-some, grows-choice, some-choice, some-literal, grows-ws, some-name, some-quoted, some-integer_within, some-natural_below, String, spaced, last_and, place, level_end, levels, wildcard, field, named_field, entry, entries, bracket_field, inner, spaced_inner, in_any_case, another_entry}
pub use Rattle.jsonb_keypath.proofs.FrontLemmas.{grows-repeat}

-- ---- what a sequence reads, by its parts

pub begun : {A B : Type 0} {rule : Rule A} {next : A → Rule B} → ReadsSome rule → ((a : A) → NeverGrows (next a)) → ReadsSome (rule >>= next)
begun h k = some-then _ _ h k

pub further : {A B : Type 0} {rule : Rule A} {next : A → Rule B} → ReadsSome rule → ((a : A) → NeverGrows (next a)) → NeverGrows (rule >>= next)
further {rule = rule} h k = grows-then _ _ (some-no_more rule h) k

pub blank : {A : Type 0} {next : Rule A} → NeverGrows next → NeverGrows (ws >> next)
blank h = grows-then ws _ grows-ws (λ _. h)

pub choice : {A : Type 0} {first second : Rule A} → ReadsSome first → ReadsSome second → ReadsSome (first </> second)
choice h k = some-choice _ _ h k

pub some-spaced : {A : Type 0} (rule : Rule A) → ReadsSome rule → ReadsSome (spaced rule)
some-spaced rule h = then-some ws _ grows-ws (λ _. begun h (λ a. blank (grows-give a)))

grows-optional : {A : Type 0} {rule : Rule A} → NeverGrows rule → NeverGrows (optional rule)
grows-optional h = grows-choice _ _ (grows-then _ _ h (λ a. grows-give (Some a))) (grows-give None)

some-keyword : (b : ℕ) (text : List ℕ) → ReadsSome (in_any_case (b ∷ text))
some-keyword b text input u rest e = grind (arith, common_steps)

-- ---- index entries

some-last_and : (sign : String) → ReadsSome (literal sign) → ReadsSome (last_and sign)
some-last_and sign reads = begun (some-keyword 108 (codes "ast")) (λ _. blank (further reads (λ _. blank (some-no_more _ (some-integer_within (2 ^ 31))))))

some-place : ReadsSome place
unfolding place
some-place = choice (begun (some-integer_within (2 ^ 31)) (λ i. grows-give _)) (choice (begun (some-last_and "-" (some-literal 45 [])) (λ i. grows-give _))
    (choice (begun (some-last_and "+" (some-literal 43 [])) (λ i. grows-give _)) (begun (some-keyword 108 (codes "ast")) (λ _. grows-give _))))

some-entry : ReadsSome (spaced entry)
unfolding entry
some-entry = some-spaced entry
    (choice (begun some-place (λ first. blank (further (some-keyword 116 (codes "o")) (λ _. blank (further some-place (λ last. grows-give _))))))
    (begun some-place (λ p. grows-give _)))

pub some-another_entry : ReadsSome another_entry
some-another_entry = begun (some-literal 44 []) (λ _. some-no_more (spaced entry) some-entry)

-- ---- steps

grows-level_end : NeverGrows level_end
grows-level_end = blank (further (some-keyword 116 (codes "o")) (λ _. blank (grows-choice _ _ (further (some-natural_below (2 ^ 8)) (λ n. grows-give _))
    (further (some-keyword 108 (codes "ast")) (λ _. grows-give _)))))

some-levels : ReadsSome levels
unfolding levels
some-levels = begun (some-literal 123 []) (λ _. blank (further (some-natural_below (2 ^ 8)) (λ n. grows-then (optional level_end) _
    (grows-optional grows-level_end) (λ end. blank (further (some-literal 125 []) (λ _. grows-give _))))))

pub some-spaced_inner : ReadsSome spaced_inner
unfolding spaced_inner inner wildcard named_field entries bracket_field field
some-spaced_inner = some-spaced inner (choice
    (choice (begun (some-literal 46 (codes "**")) (λ _. grows-then (optional levels) _ (grows-optional (some-no_more levels some-levels)) (λ found. grows-give _)))
    (choice (begun (some-literal 46 (codes "*")) (λ _. grows-give _))
    (begun (some-literal 91 []) (λ _. blank (further (some-literal 42 []) (λ _. blank (further (some-literal 93 []) (λ _. grows-give _)))))))) (choice
    (choice (begun (begun (some-literal 58 []) (λ _. (some-no_more _ (choice some-quoted some-name)))) (λ text. grows-give _))
    (begun (begun (some-literal 46 []) (λ _. (some-no_more _ (choice some-quoted some-name)))) (λ text. grows-give _))) (choice
    (begun (begun (some-literal 91 []) (λ _. further (begun some-entry (λ first. grows-then _ _ (grows-repeat another_entry some-another_entry)
    (λ others. grows-give _))) (λ found. further (some-literal 93 []) (λ _. grows-give _)))) (λ found. grows-give _))
    (begun (some-literal 91 []) (λ _. blank (further some-quoted (λ text. blank (further (some-literal 93 []) (λ _. grows-give _)))))))))
