use Rattle.jsonb_raw.proofs.Lemmas.{sym, ◌∙◌, elements, SomeEntries-first, SomeEntries-none, container_told, KeysLeft-all, KeysLeft-counted, KeysLeft-passed, KeysLeft-none}
use Rattle.jsonb_raw.proofs.functions.array.key_table.KeyTable.new.Goals as goal

pub loop-entry-init : goal.loop-entry-init
loop-entry-init c = λ form ts h fit few. record {
  trees = ts;
  left = rw c.into_iter-entry-iterator.ensures.into_iter_gives h;
  fact = KeysLeft-all _ (elements ts) c.new-keys.ensures fit few;
}

pub loop-entry-preserved-then-entry-longest : goal.loop-entry-preserved-then-entry-longest
loop-entry-preserved-then-entry-longest c = λ form ts h fit few.
    SomeEntries-first form _ _ _ _ _ c.in_ok-entry.was c.in-Some.ensures.steps (c.loop-entry.invariant form ts h fit few)
    (λ first rest left stored fact. record {
      trees = rest;
      left = left;
      fact = KeysLeft-passed _ first (elements rest) (elements ts) fact (container_told form _ first stored (sym c.is_container.ensures ∙ c.if-is_container.true));
    })

pub loop-entry-preserved : goal.loop-entry-preserved
loop-entry-preserved c = λ form ts h fit few.
    SomeEntries-first form _ _ _ _ _ c.in_ok-entry.was c.in-Some.ensures.steps (c.loop-entry.invariant form ts h fit few)
    (λ first rest left stored fact. record {
      trees = rest;
      left = left;
      fact = KeysLeft-counted _ first (elements rest) (elements ts) fact _ c.write_entry_key.new.out (c.in_ok-write_entry_key.ensures.key form first stored)
          c.in_ok-add.ensures.more;
    })

pub returns-clause-keys : goal.returns-clause-keys
returns-clause-keys c = λ form ts h fit few.
    KeysLeft-none _ _ (SomeEntries-none form _ _ _ c.in-None.ensures.steps (c.loop-entry.invariant form ts h fit few))
