use Rattle.jsonb_raw.proofs.Lemmas.{◌+◌, ◌^◌, ◌<◌, ◌∷◌, ℕ, List, drop, reverse, Tree, Form, HasRoom, change_child, remove_at, LeadTo, contents_size, sizes, rooms_after, IsOpening}
use Rattle.jsonb_raw.proofs.functions.path.cut.write_down.Given as goal

-- the innermost container that is open still gets all its entries, and those within it come next
abbrev pub invariant-loop-index : goal.invariant-loop-index
invariant-loop-index l = record {
  short : sizes (drop l.index l.inner) < 2 ^ 28;
  room : HasRoom l.writer (contents_size l.parent + sizes (drop l.index l.inner)) (rooms_after (reverse l.around.items));
  opening : (form : Form) (t end : Tree) (n : ℕ) (ns : List ℕ) → LeadTo form (l.fn.outermost ∷ l.inner) (n ∷ ns) t end
      → IsOpening form l.writer l.around.items l.parent (drop l.index l.inner) (change_child n (remove_at ns) t);
}
