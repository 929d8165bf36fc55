use Rattle.std.proofs.Common.{subst, ◌≤◌, ◌≡◌, length, rules, arith}
use Rattle.std.proofs.lemmas.List.{set_past}
use Rattle.std.proofs.lemmas.Result.{err_from_is_err_and}
use Rattle.std.proofs.iter.Next.{Yields-more}
use Rattle.std.specs.Iterator.{Yields}
use Rattle.files.specs.Lists.{Extends}
use Rattle.files.proofs.list.BoundedList.extend.Goals as goal

pub returns-in_err-push-clause-adds : goal.returns-in_err-push-clause-adds
returns-in_err-push-clause-adds g c =
    let list = c.loop-x.self in
    let full = c.in_err-push.ensures.room in
    let same : c.push.new.self.places.now ≡ list.places.now = rw c.push.ensures.wrote (set_past list.places.now list.len c.in-Some.x full.0) in
    let so : Extends c.args.self.now.places.now c.args.self.now.len c.push.new.self.places.now c.push.new.self.len c.loop-x.yielded = rw (same, full.1) c.loop-x.invariant.2 in
    let next = g.I.Iterator.next_gives in
    let start : c.into_iter-x-iterator.result ≡ c.args.items = search rules in
    let came : Yields next c.args.items c.loop-x.yielded c.loop-x.x-iterator = subst (λ (i : g.row.I.Denot). Yields next i c.loop-x.yielded c.loop-x.x-iterator) start c.loop-x.yielded_by in
    let y = Yields-more next c.args.items c.loop-x.yielded c.loop-x.x-iterator c.in-Some.x c.next.new.self came c.in-Some.ensures.steps in
    let p = err_from_is_err_and c.from_residual.result c.from_residual.ensures.1 in
    let room : length c.args.self.now.places.now ≤ c.push.new.self.len = omega (arith, c.loop-x.invariant.2.width, full.0, full.1) in
    (c.loop-x.yielded, so, rw p.1 (room, (c.in-Some.x, c.next.new.self, y)))
