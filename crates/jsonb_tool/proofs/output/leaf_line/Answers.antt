use Rattle.std.proofs.Common.{◌++◌, ap, arith, ◌∙◌, codes}
use Rattle.jsonb.specs.KeyPathText.{key_path_text}
use Rattle.jsonb.specs.KeyPathViews.{key_paths_view}
use Rattle.jsonb_tool.proofs.output.leaf_line.Goals as goal

pub returns : goal.returns
returns c =
    let text = key_path_text (key_paths_view c.args.path.now) in
    let line = c.in_ok-format.ensures.ok ∙ ap (λ ds. ds ++ (codes " " ++ (text ++ codes "\n"))) c.in_ok-digits.ensures in
    (λ i. omega (arith, c.type_inv.document i), line)
