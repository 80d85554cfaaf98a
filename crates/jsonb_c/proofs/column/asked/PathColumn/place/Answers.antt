use Rattle.std.proofs.Common.{refl}
use Rattle.jsonb.specs.KeyPathGrammar.{key_path}
use Rattle.jsonb.specs.KeyPathViews.{key_paths_view}
use Rattle.jsonb_doc.specs.declared.error.Error.TheVariants.{InvalidKeyPath}
use Rattle.jsonb_c.specs.Private.Boxes.{IsTextRefusal}
use Rattle.jsonb_c.specs.declared.status.Status.TheVariants.{Refused}
use Rattle.jsonb_c.proofs.Paths.{by_text, runs, text_cause}
use Rattle.jsonb_c.proofs.column.asked.PathColumn.place.Goals as goal

pub returns-in-Ok : goal.returns-in-Ok
returns-in-Ok c = runs (Refused InvalidKeyPath) (key_path c.args.self.now.path.now) (key_paths_view c.in-Ok.steps) _ _ c.in-Ok.ensures c.join.ensures

pub returns-in-Err : goal.returns-in-Err
returns-in-Err c =
    let cause : IsTextRefusal (Refused InvalidKeyPath) (key_path c.args.self.now.path.now) c.of_text.result =
    rw c.of_text.ensures (text_cause InvalidKeyPath _ _ c.in-Err.ensures) in
    by_text (Refused InvalidKeyPath) c.of_text.result (key_path c.args.self.now.path.now) _ _ cause
    (c.fail_join.ensures.status, (c.fail_join.ensures.rows, c.fail_join.ensures.bytes, c.fail_join.ensures.next, refl))
