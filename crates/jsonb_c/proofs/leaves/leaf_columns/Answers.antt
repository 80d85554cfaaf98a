use Rattle.std.proofs.Common.{◌≤◌, false, length, map, take, arith}
use Rattle.jsonb.specs.KeyPathViews.{key_paths_view}
use Rattle.std.specs.List.{AllZip}
use Rattle.std.proofs.lemmas.Result.{err_from_is_err_and}
use Rattle.jsonb.proofs.DecodedFits.{decoded_fits}
use Rattle.jsonb.proofs.LeafLimits.{leaves_refused}
use Rattle.jsonb_doc.specs.Format.{Decodes}
use Rattle.jsonb_raw.specs.Documents.{raw_bytes}
use Rattle.jsonb_raw.specs.Making.{IsPairOf}
use Rattle.jsonb_raw.specs.Leaves.{leaves}
use Rattle.jsonb_c.specs.Private.LeafColumns.{leaf_row}
use Rattle.jsonb_c.proofs.LeafRows.{rows_at, rows_of_leaves, take_all}
use Rattle.jsonb_c.proofs.leaves.leaf_columns.Goals as goal

pub returns-in_err-leaves-clause-leaves : goal.returns-in_err-leaves-clause-leaves
returns-in_err-leaves-clause-leaves c =
    let p = err_from_is_err_and c.from_residual.result c.from_residual.ensures.1 in
    rw (p.1, p.2) (λ form t d.
    leaves_refused form t _ (decoded_fits form _ t (λ i. omega (arith, c.type_inv.document i)) d) (c.in_err-leaves.ensures.leaves form t (rw c.new.ensures d)))

pub loop-path-preserved : goal.loop-path-preserved
loop-path-preserved c =
    rw (rows_at c.deref-path-items.result.now c.loop-path.path-index c.loop-path-item.result c.loop-path-test.true c.loop-path-item.is)
    (c.in_ok-push.ensures.row (map leaf_row (take c.loop-path.path-index c.deref-path-items.result.now)) c.loop-path.invariant)

pub returns-clause-leaves : goal.returns-clause-leaves
returns-clause-leaves c =
    let done : length c.deref-path-items.result.now ≤ c.loop-path.path-index = omega (arith, c.loop-path-test.false) in
    let all = take_all c.deref-path-items.result.now c.loop-path.path-index done in (
      map leaf_row c.deref-path-items.result.now,
      rw all at c.loop-path.invariant,
      λ form t d.
          let d' : Decodes form (raw_bytes c.new.result) t = rw c.new.ensures d in
          let each : AllZip (IsPairOf key_paths_view form) c.deref-path-items.result.now (leaves false t) =
          rw c.deref-path-items.ensures.value (c.in_ok-leaves.ensures.leaves form t d') in
          rows_of_leaves form c.deref-path-items.result.now (leaves false t) each,
    )
