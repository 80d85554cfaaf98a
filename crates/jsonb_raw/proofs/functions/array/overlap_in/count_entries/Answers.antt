use Rattle.jsonb_raw.proofs.Lemmas.{elements, SomeEntries-first, CountsLeft-next}
use Rattle.jsonb_raw.proofs.functions.array.overlap_in.count_entries.Goals as goal

pub loop-entry-preserved : goal.loop-entry-preserved
loop-entry-preserved c = λ form ts h few.
    SomeEntries-first form _ _ _ _ _ c.in_ok-entry.was c.in-Some.ensures.steps (c.loop-entry.invariant form ts h few)
    (λ first rest left stored fact. record {
      trees = rest;
      left = left;
      fact = CountsLeft-next _ _ c.write_entry_key.new.out first (elements rest) (elements ts) fact (c.in_ok-write_entry_key.ensures.key form first stored) few
          c.in_ok-add.ensures.more;
    })
