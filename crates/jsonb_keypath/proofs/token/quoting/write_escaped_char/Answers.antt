use Rattle.jsonb_keypath.proofs.Common.{◌≡◌, false, arith, ◌==◌, nat_tests}
use Rattle.jsonb_keypath.proofs.ShowLemmas.{quoted_char}
use Rattle.jsonb_keypath.proofs.token.quoting.write_escaped_char.Goals as goal

pub returns : goal.returns
returns g c plain ok =
    let no_quote : (c.args.c == 34) ≡ false = grind (arith, nat_tests, c.if-c-eq34.false) in
    let no_backslash : (c.args.c == 92) ≡ false = grind (arith, nat_tests, c.if-c-eq92.false) in
    rw (quoted_char c.args.c no_quote no_backslash) (c.write.ensures.writes plain ok)
