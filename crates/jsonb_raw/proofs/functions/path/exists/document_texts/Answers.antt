use Rattle.jsonb_raw.proofs.Lemmas.{false≢true, text_read, other_read, text_utf8, plain_shape, no_texts}
use Rattle.jsonb_doc.specs.declared.shape.Shape.TheVariants.{Array, Object}
use Rattle.jsonb_raw.proofs.functions.path.exists.document_texts.Goals as goal

pub returns-in_ok-object_entries-in-Object-clause-reads : goal.returns-in_ok-object_entries-in-Object-clause-reads
returns-in_ok-object_entries-in-Object-clause-reads c = other_read c.args.bytes Object tt (rw c.in-Object.is at c.in_ok-root_shape.ensures.readable) tt

pub returns-in_ok-array_entries-in-Array-clause-reads : goal.returns-in_ok-array_entries-in-Array-clause-reads
returns-in_ok-array_entries-in-Array-clause-reads c = other_read c.args.bytes Array tt (rw c.in-Array.is at c.in_ok-root_shape.ensures.readable) tt

pub returns-in-Text-clause-reads : goal.returns-in-Text-clause-reads
returns-in-Text-clause-reads c =
    text_read c.args.bytes.now c.in-Text.text (rw c.in-Text.is at c.in_ok-root_shape.ensures.readable) (c.is_utf8.ensures.0 c.if-is_utf8.true)

pub returns-in-Text-2-clause-texts : goal.returns-in-Text-2-clause-texts
returns-in-Text-2-clause-texts c = λ form t d.
    let is = rw c.in-Text.is at (c.in_ok-root_shape.ensures.shape form t d) in
    let utf8 = c.is_utf8.ensures.1 (text_utf8 form _ _ (rw is at d)) in
    absurd (false≢true (rw c.if-is_utf8.false at utf8))

pub returns-in_default : goal.returns-in_default
returns-in_default c = record {
  texts = λ form t d name. no_texts _ t (c.in_ok-root_shape.ensures.shape form t d) c.in_default.not-Text c.in_default.not-Array c.in_default.not-Object name;
  errors = tt;
  reads = other_read c.args.bytes _ (plain_shape _ c.in_default.not-Text) c.in_ok-root_shape.ensures.readable c.in_ok-root_shape.ensures.normal;
}
