use Rattle.std.proofs.Common.{◌≡◌, arith, inl}
use Rattle.std.proofs.lemmas.Result.{err_from_is_err_and}
use Rattle.jsonb.specs.Error.TheVariants.{OutOfMemory}
use Rattle.jsonb.specs.Format.{Decodes}
use Rattle.jsonb.specs.Payload.{any}
use Rattle.jsonb.proofs.DecodedFits.{decoded_fits}
use Rattle.jsonb.specs.Documents.{raw_bytes}
use Rattle.jsonb.proofs.LeafLimits.{leaves_refused}
use Rattle.jsonb_tool.proofs.LeafLines.{shows_leaves}
use Rattle.jsonb_tool.proofs.output.leaves.Goals as goal

pub returns-in_err-leaves : goal.returns-in_err-leaves
returns-in_err-leaves c =
    let (same, (t, d)) = c.in_ok-document.ensures in
    let memory : c.in_err-leaves.field-0.0 ≡ OutOfMemory =
    leaves_refused any t _ (decoded_fits any _ t (λ i. omega (arith, c.type_inv.document i)) d) (c.in_err-leaves.ensures.leaves any t (rw same d)) in
    let p = err_from_is_err_and c.from_residual-in_err-leaves.result c.from_residual-in_err-leaves.ensures.1 in
    rw (p.1, p.2) (inl memory)

pub returns : goal.returns
returns c =
    let (same, decodes) = c.in_ok-document.ensures in
    let lines = rw c.deref.ensures.value at c.in_ok-leaf_lines.ensures in
    inl (
      decodes,
      λ form t d.
          let d' : Decodes form (raw_bytes c.in_ok-document.document) t = rw same d in
          shows_leaves form t c.in_ok-leaves.leaves.items _
          lines.0 (c.in_ok-leaves.ensures.leaves form t d') lines.1,
    )
