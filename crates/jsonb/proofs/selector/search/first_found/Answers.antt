use Rattle.jsonb.proofs.Lemmas.{◌∷◌, [], None, Err, ap, sym, ◌∙◌, refl, arith, subst, nil_from_length, err_from_is_err_and, steps_of, steps_meaning, HasItems, Lax, Searching, taken_first, taken_none, found_at_most, search_begun, item_found, items_entered, items_done, search_done, refused_if_any}
use Rattle.jsonb.proofs.SearchLemmas.{item_passed}
use Rattle.jsonb.proofs.selector.search.first_found.Goals.{in-Some+in_ok-item-in-Some+in_ok-found-in-Some+in-AtMostOne-None, in-Some+in_ok-item-in-Some+in_ok-found-in-Some+in-Many-2+in_ok-push-in-Many-2, in-None+in-Some-pop}
use Rattle.jsonb.specs.declared.selector.search.Reached.TheVariants as reached
use Rattle.jsonb.proofs.selector.search.first_found.Goals as goal

pub returns-in_err-found-clause-meant : goal.returns-in_err-found-clause-meant
returns-in_err-found-clause-meant c = λ top t ss a m.
    let p = err_from_is_err_and c.from_residual.result c.from_residual.ensures.1 in
    refused_if_any _ _ _ (p.1 ∙ ap Err p.2) (c.in_err-found.ensures.meant top t ss a m)

pub returns-in-AtMostOne-clause-meant : goal.returns-in-AtMostOne-clause-meant
returns-in-AtMostOne-clause-meant c = λ top t ss a m.
    let k = rw c.in-AtMostOne.is at (c.in_ok-found.ensures.meant top t ss a m) in
    found_at_most c.args.bytes.now c.in-AtMostOne.found k.0 _ k.1 k.2

pub walk-init : goal.walk-init
walk-init c = λ top t ss a m.
    search_begun c.args.bytes.now top c.in-Many.inner c.new-around.result.items t ss c.new-around.ensures.items
    (rw c.in-Many.is at (c.in_ok-found.ensures.meant top t ss a m))

pub returns-in_err-found-in-Some-clause-meant : goal.returns-in_err-found-in-Some-clause-meant
returns-in_err-found-in-Some-clause-meant c = λ top t ss a m.
    let w = c.walk.invariant top t ss a m in
    let f = taken_first c.args.bytes.now c.in-Some.item c.in_ok-item-in-Some.field-0 c.next.new.self w.here c.in_ok-item-in-Some.was
    (c.in-Some.ensures.takes c.args.bytes.now w.here w.left) in
    let p = err_from_is_err_and c.from_residual-in_err-found-in-Some.result c.from_residual-in_err-found-in-Some.ensures.1 in
    refused_if_any _ _ _ (p.1 ∙ ap Err p.2) (c.in_err-found-in-Some.ensures.meant top f.first w.rest w.searched f.holds)

pub returns-in-AtMostOne-Some-clause-meant : goal.returns-in-AtMostOne-Some-clause-meant
returns-in-AtMostOne-Some-clause-meant c = λ top t ss a m.
    let w = c.walk.invariant top t ss a m in
    let f = taken_first c.args.bytes.now c.in-Some.item c.in_ok-item-in-Some.field-0 c.next.new.self w.here c.in_ok-item-in-Some.was
    (c.in-Some.ensures.takes c.args.bytes.now w.here w.left) in
    let k = rw (c.in-AtMostOne-Some.is ∙ ap reached.AtMostOne c.in-AtMostOne-Some.field-0-is) at
    (c.in_ok-found-in-Some.ensures.meant top f.first w.rest w.searched f.holds) in
    record { ok = item_found c.args.bytes.now top w c.in-AtMostOne-Some.found f k; err = tt }

pub walk-preserved : goal.walk-preserved
walk-preserved c = λ top t ss a m.
    let bytes = c.args.bytes.now in
    let whole = steps_meaning Lax (steps_of ss) top (t ∷ []) in
    let w = c.walk.invariant top t ss a m in
    elim c.match-next.branch [
      | in-Some+in_ok-item-in-Some+in_ok-found-in-Some+in-AtMostOne-None b ↦
          let f = taken_first bytes b.in-Some.item b.in_ok-item-in-Some.field-0 c.next.new.self w.here b.in_ok-item-in-Some.was
          (b.in-Some.ensures.takes bytes w.here w.left) in
          let k = rw (b.in-AtMostOne-None.is ∙ ap reached.AtMostOne b.in-AtMostOne-None.field-0-is) at
          (b.in_ok-found-in-Some.ensures.meant top f.first w.rest w.searched f.holds) in
          subst (λ z. Searching bytes top (HasItems bytes z.items) z.ahead c.match-next.around.items whole) (sym b.within-is)
          (rw (sym b.around-is) at (item_passed bytes top w f k))
      | in-Some+in_ok-item-in-Some+in_ok-found-in-Some+in-Many-2+in_ok-push-in-Many-2 b ↦
          let f = taken_first bytes b.in-Some.item b.in_ok-item-in-Some.field-0 c.next.new.self w.here b.in_ok-item-in-Some.was
          (b.in-Some.ensures.takes bytes w.here w.left) in
          let k = rw b.in-Many-2.is at (b.in_ok-found-in-Some.ensures.meant top f.first w.rest w.searched f.holds) in
          subst (λ z. Searching bytes top (HasItems bytes z.items) z.ahead c.match-next.around.items whole) (sym b.within-is)
          (rw (sym b.around-is) at
          (items_entered bytes top w (record { items = c.next.new.self; ahead = c.walk.within.ahead }) b.in-Many-2.inner b.push.new.self.items f refl
          b.in_ok-push-in-Many-2.ensures.items k))
      | in-None+in-Some-pop b ↦
          rw (sym b.within-is) at (rw (sym b.around-is) at (items_done bytes top w b.in-Some-pop.outer b.pop.new.self.items
          (taken_none bytes c.next.new.self w.here (b.in-None.ensures.takes bytes w.here w.left)) b.in-Some-pop.ensures.items))
    ]

pub returns-in-None-pop-clause-meant : goal.returns-in-None-pop-clause-meant
returns-in-None-pop-clause-meant c = λ top t ss a m.
    let w = c.walk.invariant top t ss a m in
    found_at_most c.args.bytes.now None [] (steps_meaning Lax (steps_of ss) top (t ∷ [])) tt
    (search_done c.args.bytes.now top w (taken_none c.args.bytes.now c.next.new.self w.here (c.in-None.ensures.takes c.args.bytes.now w.here w.left))
    (nil_from_length c.walk.around.items (omega (arith, c.in-None-pop.ensures.cases.0, c.walk.around.ok.0))))
