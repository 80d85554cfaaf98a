use Rattle.jsonb.proofs.Lemmas.{pos, refl, arith, has_written_append, has_written_of_eq, other_entry_text, text_of_one_more}
use Rattle.jsonb.specs.declared.path.ArrayIndex.TheVariants as ArrayIndex
use Rattle.jsonb.specs.declared.path.Index.TheVariants as Index
use Rattle.jsonb.proofs.path.display.write_others.Goals as goal

pub loop-entry-preserved : goal.loop-entry-preserved
loop-entry-preserved g c plain =
    let had = c.loop-entry.invariant plain in
    let default = ArrayIndex.Index (Index.Index (pos 0)) in
    has_written_of_eq _ _ _ _ _ (text_of_one_more other_entry_text c.args.entries.now c.loop-entry.entry-index default
    (omega arith))
    (has_written_append _ _ _ _ _ _ had (c.in_ok-write.ensures.writes had.plain refl))
