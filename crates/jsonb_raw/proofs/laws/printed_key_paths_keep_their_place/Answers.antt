use Rattle.jsonb_raw.proofs.Lemmas.{◌≡◌, ℕ, List, [], ◌∷◌, Option, refl, slice_get, option_and_then, option_map, map, arith, Tree, Key, without_quotes, reads_back_if_read, children, child_position, location}
use Rattle.jsonb_raw.proofs.laws.printed_key_paths_keep_their_place.Goals as goal

same_child : (step : Key) (t : Tree) → child_position (without_quotes step) t ≡ child_position step t
same_child step t = grind arith

same_place : (steps : List Key) (t : Tree) → location (map without_quotes steps) t ≡ location steps t
same_place [] t = refl
same_place (step ∷ steps) t = rw (same_child step t) (by (same_place steps) (child_position step t))
  where
    at_child : ((child : Tree) → location (map without_quotes steps) child ≡ location steps child) → (o : Option Tree)
        → option_and_then (location (map without_quotes steps)) o ≡ option_and_then (location steps) o
    at_child h o = grind arith

    by : ((child : Tree) → location (map without_quotes steps) child ≡ location steps child) → (o : Option ℕ)
        → option_and_then (λ n. option_map (λ ns. n ∷ ns) (option_and_then (location (map without_quotes steps)) (slice_get (children t) n))) o
        ≡ option_and_then (λ n. option_map (λ ns. n ∷ ns) (option_and_then (location steps) (slice_get (children t) n))) o
    by h o = grind (arith, at_child)

pub returns : goal.returns
returns c = grind (arith, same_place, reads_back_if_read c.args.text.now)
