use Rattle.jsonb_doc.proofs.Lemmas.{◌∷◌, refl, keys_first, part_opened, err_is}
use Rattle.jsonb_doc.proofs.event_list.writing.enter.Goals as goal

pub returns-in_err-outer-clause-entered : goal.returns-in_err-outer-clause-entered
returns-in_err-outer-clause-entered c = λ form t coming around whole h w.
    let ms = c.in_ok-left.left.members.now in
    let o = part_opened c.args.all.now c.args.room c.args.run ms t h (c.in_ok-left.ensures.found c.args.room t h).0 in
    err_is _ _ _ _ c.from_residual-in_err-outer.ensures.1
    (c.in_err-outer.ensures.entered form (keys_first c.args.run.kind ms o.trees) t coming around whole (o.makes _ refl) w)

pub returns-in_err-put_keys_of-clause-entered : goal.returns-in_err-put_keys_of-clause-entered
returns-in_err-put_keys_of-clause-entered c = λ form t coming around whole h w.
    let ms = c.in_ok-left.left.members.now in
    let o = part_opened c.args.all.now c.args.room c.args.run ms t h (c.in_ok-left.ensures.found c.args.room t h).0 in
    let entered = c.in_ok-outer.ensures.entered form (keys_first c.args.run.kind ms o.trees) t coming around whole (o.makes _ refl) w in
    err_is _ _ _ _ c.from_residual-in_err-put_keys_of.ensures.1
    (c.in_err-put_keys_of.ensures.put form o.trees ((c.in_ok-outer.outer, coming) ∷ around) whole entered)

pub returns-clause-entered : goal.returns-clause-entered
returns-clause-entered c = λ form t coming around whole h w.
    let ms = c.in_ok-left.left.members.now in
    let found = c.in_ok-left.ensures.found c.args.room t h in
    let o = part_opened c.args.all.now c.args.room c.args.run ms t h found.0 in
    let entered = c.in_ok-outer.ensures.entered form (keys_first c.args.run.kind ms o.trees) t coming around whole (o.makes _ refl) w in
    record {
      trees = o.trees;
      holds = rw found.1 o.holds;
      writing = c.in_ok-put_keys_of.ensures.put form o.trees ((c.in_ok-outer.outer, coming) ∷ around) whole entered;
    }
