use Rattle.std.proofs.Common.{map, arith}
use Rattle.std.proofs.lemmas.List.{length-map}
use Rattle.jsonb_c.proofs.MakingLemmas.{errors_answer}
use Rattle.jsonb_c.proofs.Names.{answered, names_count}
use Rattle.jsonb_c.specs.Private.Views.{vec_answer}
use Rattle.jsonb_c.proofs.build.object.jdoc_object_from_columns.Goals as goal

pub object_of-requires : goal.object_of-requires
object_of-requires c =
    let read = names_count _ (map (λ name. name.now) c.in-Ok.names.items) c.in-Ok.ensures in
    rw c.deref.ensures.value (omega (arith, length-map c.in-Ok.names.items (λ name. name.now), read, c.len.ensures, c.len-2.ensures, c.if-len.false))

pub returns-in-Ok-clause-object : goal.returns-in-Ok-clause-object
returns-in-Ok-clause-object c = λ _ _.
    let read = rw c.new-names.ensures at c.in-Ok.ensures in
    answered _ (map (λ name. name.now) c.in-Ok.names.items) _ _ read (
      vec_answer c.object_of.result,
      rw (c.deref.ensures.value, c.new-documents.ensures) at c.object_of.ensures.object,
      errors_answer _ c.object_of.result c.object_of.ensures.errors,
      c.deliver_vec.ensures,
    )
