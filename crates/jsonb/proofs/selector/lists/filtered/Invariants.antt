use Rattle.std.specs.List.{AllByRecursion}
use Rattle.jsonb.proofs.Lemmas.{ℕ, List, AllZip, Locates, Tree, Expression, IfErr, IsSelectionError, Mode, truth, AreTruths, AreSound, flat, FilteredUntil}
use Rattle.jsonb.proofs.selector.lists.filtered.Given as goal

-- the lists before this one are filtered, and the results of the items of the others begin at this index
abbrev pub invariant-loop-list : goal.invariant-loop-list
invariant-loop-list l = record {
  meant : (bytes : List ℕ) (mode : Mode) (e : Expression) (top : Tree) (ts : List Tree) → AllZip (Locates bytes) (flat l.initial.list-items) ts
      → AreTruths (truth mode e top) ts l.truths → FilteredUntil bytes mode e top l.truths l.list-index l.start l.initial.list-items l.list-items;
  sound : (mode : Mode) → AllByRecursion (λ x. IfErr x (IsSelectionError mode)) l.initial.list-items → AreSound mode l.truths
      → AllByRecursion (λ x. IfErr x (IsSelectionError mode)) l.list-items;
}
