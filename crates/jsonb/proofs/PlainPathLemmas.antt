-- A path of steps is no longer than its text.
use Rattle.jsonb.proofs.Common.{◌≡◌, ◌≤◌, ℕ, List, [], length, Some, sym, name, NeverGrows, grows-give, grows-then, grows-choice, some-literal, some-name, Step, root, dot_field, first_step, front_steps, plain_path, arith}
use Rattle.jsonb.proofs.InnerReadsSome.{further, some-spaced, grows-repeat}
use Rattle.jsonb.proofs.ExpressionReadsSome.{some-path_step}

grows-first_step : NeverGrows first_step
unfolding first_step
grows-first_step =
    grows-choice _ _ (further (some-literal 36 []) (λ _. grows-give root)) (further (some-spaced name some-name) (λ text. grows-give (dot_field text)))

grows-plain_path : NeverGrows plain_path
unfolding plain_path front_steps
grows-plain_path = grind (arith, grows-then, grows-repeat, some-path_step, grows-give, grows-choice, grows-first_step)

pub plain_path_shrinks : (input : List ℕ) (steps : List Step) (rest : List ℕ) → Some (steps, rest) ≡ plain_path input → length rest ≤ length input
plain_path_shrinks input steps rest e = grows-plain_path input steps rest (sym e)
