use Rattle.jsonb_doc.proofs.Lemmas.{◌≡◌, ◌++◌, drop, contents_of_runs}
use Rattle.jsonb_doc.proofs.rewriting.push_contents.Given as goal

-- what is written, followed by what is left, is the whole
abbrev pub invariant-loop-run : goal.invariant-loop-run
invariant-loop-run l = l.out.items ++ contents_of_runs (drop l.run-index l.runs) ≡ l.fn.out.items ++ contents_of_runs l.fn.runs
