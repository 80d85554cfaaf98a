use Rattle.jsonb_doc.proofs.Lemmas.{◌≡◌, ◌++◌, drop, words_of_runs}
use Rattle.jsonb_doc.proofs.rewriting.push_words.Given as goal

-- what is written, followed by what is left, is the whole
abbrev pub invariant-loop-run : goal.invariant-loop-run
invariant-loop-run l = l.out.items ++ words_of_runs (drop l.run-index l.runs) ≡ l.fn.out.items ++ words_of_runs l.fn.runs
