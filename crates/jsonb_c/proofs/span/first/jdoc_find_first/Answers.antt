use Rattle.std.proofs.Common.{refl}
use Rattle.jsonb.specs.PathGrammar.{json_path}
use Rattle.jsonb.specs.PathViews.{path_view}
use Rattle.jsonb_doc.specs.declared.error.Error.TheVariants.{InvalidJsonPath}
use Rattle.jsonb_c.specs.Private.Boxes.{IsTextRefusal}
use Rattle.jsonb_c.specs.declared.status.Status.TheVariants.{NotJsonPath}
use Rattle.jsonb_c.proofs.Paths.{by_text, runs, text_cause}
use Rattle.jsonb_c.proofs.span.first.jdoc_find_first.Goals as goal

pub returns-in-Ok-clause-span : goal.returns-in-Ok-clause-span
returns-in-Ok-clause-span c = runs NotJsonPath (json_path c.args.path.now) (path_view c.in-Ok.steps) _ _ c.in-Ok.ensures
    (c.first_by_path-found.result, c.first_by_path-found.ensures.first, c.first_by_path-found.ensures.errors, c.store_first.ensures)

pub returns-in-Err-clause-span : goal.returns-in-Err-clause-span
returns-in-Err-clause-span c =
    let cause : IsTextRefusal NotJsonPath (json_path c.args.path.now) c.of_text.result =
    rw c.of_text.ensures (text_cause InvalidJsonPath _ _ c.in-Err.ensures) in
    by_text NotJsonPath c.of_text.result (json_path c.args.path.now) _ _ cause (refl, c.to_u32.ensures)
