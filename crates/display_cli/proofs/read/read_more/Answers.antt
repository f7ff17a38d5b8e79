-- The bytes that were read stand behind those before.
use Rattle.std.proofs.Common.{◌≤◌, length, arith, drop, rules, ◌≡◌}
use Rattle.display_cli.proofs.NameRead.{front-more}
use Rattle.display_cli.proofs.read.read_more.Goals as goal

pub returns-clause-front : goal.returns-clause-front
returns-clause-front g c =
    let within : c.in_ok-count.count ≤ length c.read.new.room = omega (arith, c.read.auto.room, c.in_ok-count.ensures.within) in
    let at : c.len-2.result ≡ length c.args.bytes.now.items = search rules in
    front-more _ c.args.bytes.now.items _ c.read.new.room (drop c.min-asked.result c.args.room.now) c.extend_from_slice.new.self.items
    c.in_ok-count.count c.len-2.result at within c.requires.front c.in_ok-count.ensures.given
    c.in_ok-extend_from_slice.ensures.items
