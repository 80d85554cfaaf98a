use Rattle.jsonb_doc.proofs.Lemmas.{◌≡◌, ◌<◌, ◌++◌, ◌∷◌, ℕ, List, length, arith, sym, ap, ◌∙◌, append_assoc, All, All-append, all_heads, stacked, joined, earlier, stack_steps, earlier_below, within_popped}
use Rattle.jsonb_doc.proofs.pieces.joined_pieces.Goals as goal

pub loop-index-preserved : goal.loop-index-preserved
loop-index-preserved c =
    let ps = c.args.pieces.now in
    let is = c.pop.new.self.items in
    let piece = c.index-pieces-index.result in
    let popped = within_popped (length ps) c.loop-index.stack.items is c.in-Some.index c.in-Some.ensures.items c.loop-index.invariant.within in
    let step : stacked (all_heads ps) c.loop-index.stack.items ≡ piece.head.items ∷ stacked (all_heads ps) (is ++ earlier c.in-Some.index piece.rest.items) =
    rw (← c.index-pieces-index.is) at (stack_steps ps c.loop-index.stack.items is c.in-Some.index piece popped.0 c.in-Some.ensures.items) in
    let pushed : c.push_earlier-in-Some.new.stack.items ≡ is ++ earlier c.in-Some.index piece.rest.items =
    c.in_ok-push_earlier-2.ensures ∙ ap (λ (js : List ℕ). is ++ earlier c.in-Some.index js) c.deref-in-Some.ensures.value in
    let copied : c.extend_from_slice.new.self.items ≡ c.loop-index.joined.items ++ piece.head.items =
    c.in_ok-extend_from_slice.ensures.items ∙ ap (λ (js : List ℕ). c.loop-index.joined.items ++ js) c.deref.ensures.value in
    let within : All (λ j. j < length ps) (is ++ earlier c.in-Some.index piece.rest.items) =
    All-append (λ j. j < length ps) is (earlier c.in-Some.index piece.rest.items) popped.1
    (earlier_below c.in-Some.index (length ps) (omega (arith, popped.0)) piece.rest.items) in
    record {
      within = rw pushed within;
      whole = rw (copied, pushed) (append_assoc c.loop-index.joined.items piece.head.items (joined (stacked (all_heads ps) (is ++ earlier c.in-Some.index piece.rest.items)))
          ∙ ap (λ (hs : List (List ℕ)). c.loop-index.joined.items ++ joined hs) (sym step) ∙ c.loop-index.invariant.whole);
    }
