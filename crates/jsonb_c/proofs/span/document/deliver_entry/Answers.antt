use Rattle.std.proofs.Common.{◌≡◌, Ok, Err, refl, inl, arith}
use Rattle.jsonb_doc.proofs.EntryDocuments.{entry_decodes}
use Rattle.jsonb_doc.proofs.KindLemmas.{kind_known, other_kind, same_kind}
use Rattle.jsonb_doc.specs.Format.{IsContent}
use Rattle.jsonb_doc.specs.Kinds.{kind_number}
use Rattle.jsonb_doc.specs.Payload.{number_reader}
use Rattle.jsonb_doc.specs.declared.error.Error.TheVariants.{TooLarge}
use Rattle.jsonb_doc.specs.declared.layout.EntryKind.TheVariants.{Container}
use Rattle.jsonb_c.proofs.span.document.deliver_entry.Goals as goal

pub returns-then-eq : goal.returns-then-eq
returns-then-eq c =
    let kind : kind_number c.args.entry.now.kind ≡ 5 = same_kind _ c.args.entry.now.kind Container c.eq.ensures c.if-eq.true in (
      Ok c.args.entry.now.content.now,
      (λ form t part.
          let stored : IsContent (number_reader form) t 5 c.args.entry.now.content.now = rw kind at part in
          record { document = inl stored }),
      tt,
      c.deliver_bytes.ensures,
    )

pub returns-then-entry-gt-MAX_CONTENT : goal.returns-then-entry-gt-MAX_CONTENT
returns-then-entry-gt-MAX_CONTENT c = (
  Err TooLarge,
  (λ form t part. (refl, omega (arith, c.if-entry-gt-MAX_CONTENT.true))),
  refl,
  (c.deliver_nothing.ensures.len, refl, c.deliver_nothing.ensures.status),
)

pub returns : goal.returns
returns c = (
  Ok _,
  (λ form t part. record {
    document = entry_decodes (number_reader form) t (kind_number c.args.entry.now.kind) c.args.entry.now.content.now
        (kind_known c.args.entry.now.kind) (other_kind _ c.args.entry.now.kind Container c.eq.ensures c.if-eq.false)
        (omega (arith, c.if-entry-gt-MAX_CONTENT.false)) part;
  }),
  tt,
  c.deliver_scalar.ensures,
)
