use Rattle.jsonb_keypath.proofs.Common.{◌≡◌, true, sym, list_all, is_unescaped, is_quote}
use Rattle.jsonb_keypath.proofs.ShowLemmas.{no_escapes}
use Rattle.jsonb_keypath.proofs.token.quoting.write_inside.Goals as goal

pub returns-then-need_no_escapes : goal.returns-then-need_no_escapes
returns-then-need_no_escapes g c plain ok =
    let all : list_all (is_unescaped is_quote) c.args.text.now ≡ true = rw c.as_bytes.ensures.value at (sym c.if-need_no_escapes.ensures) in
    rw (no_escapes c.args.text.now all) (c.write_str.ensures.writes plain ok)
