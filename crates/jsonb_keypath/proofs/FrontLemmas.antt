-- The front of a key path does not lengthen the text.
use Rattle.jsonb_keypath.proofs.Common.{ℕ, [], ◌∷◌, ◌++◌, Bool, concat, is_utf8, Rule, ◌>>◌, only_if, literal, repeat, ws, unit, units, text, is_stop, is_quote, ReadsSome, spaced_key, key_list, another_key, perhaps, key_front, closing_brace, after_keys, inside_front, key_path_front}
use Rattle.jsonb_keypath.proofs.ReadsLemmas.{NeverGrows, some-no_more, grows-give, grows-then, grows-choice, grows-only_if, repeated-repeat}
use Rattle.jsonb_keypath.proofs.CutLemmas.{some-literal, some-unit}
use Rattle.jsonb_keypath.proofs.GrowsLemmas.{grows-ws, run-no_more, some-spaced_key, some-another_key}

pub grows-perhaps : {A : Type 0} (rule : Rule A) → NeverGrows rule → NeverGrows (perhaps rule)
grows-perhaps rule h = grows-choice _ _ (grows-then rule _ h (λ _. grows-give tt)) (grows-give tt)

pub grows-repeat : {A : Type 0} (rule : Rule A) → ReadsSome rule → NeverGrows (repeat rule)
grows-repeat rule reads input values rest e =
    run-no_more rule reads input values rest (repeated-repeat rule reads input values rest e).0

pub grows-byte : (b : ℕ) → NeverGrows (Rattle.jsonb_keypath.specs.Rules.bytes (b ∷ []))
grows-byte b = some-no_more _ (some-literal b [])

pub grows-text : (e : ℕ → Bool) → NeverGrows (text e)
unfolding text units
grows-text e = grows-then (units e) _
    (grows-then (unit e) _ (some-no_more (unit e) (some-unit e)) (λ first. grows-then (repeat (unit e)) _ (grows-repeat (unit e) (some-unit e))
    (λ others. grows-give (first ++ concat others))))
    (λ found. grows-then (only_if (is_utf8 found)) _ (grows-only_if (is_utf8 found)) (λ _. grows-give found))

grows-key_list : NeverGrows key_list
grows-key_list = grows-then spaced_key _ (some-no_more spaced_key some-spaced_key) (λ first. grows-then (repeat another_key) _
    (grows-repeat another_key some-another_key) (λ others. grows-give (first ∷ others)))

grows-key_front : NeverGrows key_front
unfolding key_front
grows-key_front = grows-choice _ _ (grows-then (literal "\"") _ (grows-byte 34) (λ _. grows-perhaps (text is_quote) (grows-text is_quote)))
    (grows-perhaps (text is_stop) (grows-text is_stop))

grows-closing_brace : NeverGrows closing_brace
unfolding closing_brace
grows-closing_brace = grows-then (literal "}") _ (grows-byte 125) (λ _. grows-ws)

grows-after_keys : NeverGrows after_keys
unfolding after_keys
grows-after_keys = grows-perhaps _ (grows-choice closing_brace _ grows-closing_brace
    (grows-then (literal "," >> ws) _ (grows-then (literal ",") _ (grows-byte 44) (λ _. grows-ws)) (λ _. grows-key_front)))

grows-inside_front : NeverGrows inside_front
unfolding inside_front
grows-inside_front = grows-choice _ _ (grows-then key_list _ grows-key_list (λ _. grows-after_keys))
    (grows-then ws _ grows-ws (λ _. grows-choice closing_brace key_front grows-closing_brace grows-key_front))

pub grows-key_path_front : NeverGrows key_path_front
unfolding key_path_front
grows-key_path_front = grows-then ws _ grows-ws (λ _. grows-perhaps _ (grows-then (literal "{") _ (grows-byte 123) (λ _. grows-inside_front)))
