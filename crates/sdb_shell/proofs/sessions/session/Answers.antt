use Rattle.std.proofs.Common.{arith, subst}
use Rattle.sdb_contents.proofs.Public.{goes_more, goes_none, some_more}
use Rattle.sdb_shell.specs.Ahead.{ahead, left}
use Rattle.sdb_shell.specs.Session.{HasExecutedLine}
use Rattle.sdb_shell.proofs.SoFar.{at_end, left_start, so_cut, so_more, so_past, so_start, so_whole}
use Rattle.sdb_shell.proofs.sessions.session.Goals as goal

pub loop-n-init : goal.loop-n-init
loop-n-init g c = record {
  some = c.requires.some;
  reads = omega arith;
  writes = omega arith;
  goes = goes_none (g.S.Registry.state c.args.stores.now);
  so = so_start c.args.catalog.now _ _ _ _ _ _ _ _ c.new-session.result c.new-session.ensures.client c.new-session.ensures.fresh (left_start (ahead c.new-bytes.result) (g.R.Source.remaining c.args.input.now) c.new-bytes.ensures.ahead) c.new-bytes.ensures.used;
}

pub returns-in-Err-clause-goes : goal.returns-in-Err-clause-goes
returns-in-Err-clause-goes g c = goes_more _ _ _ c.loop-n.invariant.goes c.take_line.ensures.goes

pub returns-in-Err-clause-cut : goal.returns-in-Err-clause-cut
returns-in-Err-clause-cut g c =
    so_cut c.args.catalog.now _ _ _ _ _ _ _ _ _ _ _ _ _ _ (left c.take_line.new.bytes (g.R.Source.remaining c.take_line.new.input)) c.loop-n.bytes.used c.take_line.new.bytes.used c.loop-n.n c.loop-n.session c.take_line.new.session c.loop-n.invariant.so c.take_line.ensures.goes c.loop-n.invariant.goes (ahead c.take_line.new.bytes) (g.R.Source.remaining c.take_line.new.input) c.in-Err.refused c.in-Err.ensures.cut

pub returns-in-Ok-Input-clause-done : goal.returns-in-Ok-Input-clause-done
returns-in-Ok-Input-clause-done g c =
    let accepted = subst (HasExecutedLine c.args.catalog.now _ _ c.loop-n.session c.take_line.new.session) c.in-Ok-Input.field-0-is c.in-Ok-Input.ensures.accepted in
    let end = at_end (ahead c.take_line.new.bytes) (g.R.Source.remaining c.take_line.new.input) accepted.read.ends in
    so_whole c.args.catalog.now _ _ _ _ _ _ _ _ _ _ _ _ _ _ _ _ _ _ c.loop-n.session c.take_line.new.session c.loop-n.invariant.so c.take_line.ensures.goes accepted c.take_line.new.bytes.most (g.R.Source.remaining c.take_line.new.input) end.0 end.1

pub returns-in-Ok-Input-clause-goes : goal.returns-in-Ok-Input-clause-goes
returns-in-Ok-Input-clause-goes g c = goes_more _ _ _ c.loop-n.invariant.goes c.take_line.ensures.goes

pub loop-n-preserved : goal.loop-n-preserved
loop-n-preserved g c =
    let before = c.loop-n.invariant in
    let on = c.take_line.ensures.goes in
    let after = c.in-Ok-Lf.ensures in
    let accepted = subst (HasExecutedLine c.args.catalog.now _ _ c.loop-n.session c.take_line.new.session) c.in-Ok-Lf.field-0-is c.in-Ok-Lf.ensures.accepted in
    record {
      some = some_more _ _ on.names before.some;
      reads = omega (arith, before.reads, after.reads);
      writes = omega (arith, before.writes, after.writes);
      goes = goes_more _ _ _ before.goes on;
      so = so_more c.args.catalog.now _ _ _ _ _ _ _ _ _ _ _ _ _ _ _ _ _ _ c.loop-n.session c.take_line.new.session before.so on accepted;
    }

pub returns-clause-cut : goal.returns-clause-cut
returns-clause-cut g c = so_past c.args.catalog.now _ _ _ _ _ _ _ _ _ (left c.loop-n.bytes (g.R.Source.remaining c.loop-n.input)) (g.R.Source.remaining c.loop-n.input) c.loop-n.bytes.used c.loop-n.n c.loop-n.session c.loop-n.invariant.so c.loop-n.invariant.goes
