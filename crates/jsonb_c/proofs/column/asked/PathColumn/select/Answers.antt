use Rattle.std.proofs.Common.{refl}
use Rattle.jsonb.specs.PathGrammar.{json_path}
use Rattle.jsonb.specs.PathViews.{path_view}
use Rattle.jsonb_doc.specs.declared.error.Error.TheVariants.{InvalidJsonPath}
use Rattle.jsonb_c.specs.Private.Boxes.{IsTextRefusal}
use Rattle.jsonb_c.specs.declared.status.Status.TheVariants.{NotJsonPath}
use Rattle.jsonb_c.proofs.Paths.{by_text, runs, text_cause}
use Rattle.jsonb_c.proofs.column.asked.PathColumn.select.Goals as goal

pub returns-in-Ok : goal.returns-in-Ok
returns-in-Ok c = runs NotJsonPath (json_path c.args.self.now.path.now) (path_view c.in-Ok.path) _ _ c.in-Ok.ensures c.join.ensures

pub returns-in-Err : goal.returns-in-Err
returns-in-Err c =
    let cause : IsTextRefusal NotJsonPath (json_path c.args.self.now.path.now) c.of_text.result =
    rw c.of_text.ensures (text_cause InvalidJsonPath _ _ c.in-Err.ensures) in
    by_text NotJsonPath c.of_text.result (json_path c.args.self.now.path.now) _ _ cause
    (c.fail_join.ensures.status, (c.fail_join.ensures.rows, c.fail_join.ensures.bytes, c.fail_join.ensures.next, refl))
