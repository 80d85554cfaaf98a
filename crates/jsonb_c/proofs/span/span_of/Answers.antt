use Rattle.std.proofs.Common.{◌≡◌, ◌+◌, length, arith, ap, ◌∙◌}
use Rattle.jsonb_doc.specs.Format.{IsContent}
use Rattle.jsonb_doc.specs.Kinds as entry
use Rattle.jsonb_doc.specs.Payload.{number_reader}
use Rattle.jsonb_c.specs.Private.Numbers.{kind_number}
use Rattle.jsonb_c.proofs.KindLemmas.{type_of}
use Rattle.jsonb_c.proofs.span.span_of.Goals as goal

pub returns-clause-span : goal.returns-clause-span
returns-clause-span c = λ form top t d l.
    let part = c.in-Some.ensures.lookup.0 in
    let stored : IsContent (number_reader form) t (entry.kind_number c.entry_kind.result) c.in-Some.content.now =
    rw (part.2, c.range-range.ensures.start, c.range-range.ensures.end, c.entry_kind.ensures) (l.content form top d) in
    let whole : c.range-range.result.start + length c.in-Some.content.now ≡ c.args.spot.end =
    omega (arith, part.3, c.range-range.ensures.end) in
    record {
      kind = type_of t _ (c.to_u8.ensures ∙ ap kind_number (c.in_ok-stored_kind.ensures.kind form t stored));
      within = omega (arith, part.1, part.3);
      content = rw (whole, c.range-range.ensures.start, c.entry_number.ensures, c.entry_kind-2.ensures) (l.content form top d);
    }
