use Rattle.std.proofs.Common.{refl, map}
use Rattle.debugger.specs.Lines as lines
use Rattle.debugger.proofs.Replying.{silent_replied}
use Rattle.debugger.proofs.dispatch.answer.Goals as goal

pub returns-in-Nothing-clause-replied : goal.returns-in-Nothing-clause-replied
returns-in-Nothing-clause-replied g c = rw c.in-Nothing.is (λ p s h.
    silent_replied p s c.args.session.now h tt lines.Nothing (map g.W.Watcher.watched c.args.watch.now.items) _ refl)

pub returns-in-Quit-clause-replied : goal.returns-in-Quit-clause-replied
returns-in-Quit-clause-replied g c = rw c.in-Quit.is (λ p s h.
    silent_replied p s c.args.session.now h tt lines.Quit (map g.W.Watcher.watched c.args.watch.now.items) _ refl)

pub returns-in-Print-clause-replied : goal.returns-in-Print-clause-replied
returns-in-Print-clause-replied g c = rw c.in-Print.is (λ p s h.
    c.look_value.ensures.replied p s (map g.W.Watcher.watched c.args.watch.now.items) h)

pub returns-in-Frames-clause-replied : goal.returns-in-Frames-clause-replied
returns-in-Frames-clause-replied g c = rw c.in-Frames.is (λ p s h.
    c.look_frames.ensures.replied p s (map g.W.Watcher.watched c.args.watch.now.items) h)

pub returns-in-Where-clause-replied : goal.returns-in-Where-clause-replied
returns-in-Where-clause-replied g c = rw c.in-Where.is (λ p s h.
    c.look_places.ensures.replied p s (map g.W.Watcher.watched c.args.watch.now.items) h)

pub returns-in-Output-clause-replied : goal.returns-in-Output-clause-replied
returns-in-Output-clause-replied g c = rw c.in-Output.is (λ p s h.
    c.look_output.ensures.replied p s (map g.W.Watcher.watched c.args.watch.now.items) h)

pub returns-in-Mail-clause-replied : goal.returns-in-Mail-clause-replied
returns-in-Mail-clause-replied g c = rw c.in-Mail.is (λ p s h.
    c.look_mail.ensures.replied p s (map g.W.Watcher.watched c.args.watch.now.items) h)

pub returns-in-Clock-clause-replied : goal.returns-in-Clock-clause-replied
returns-in-Clock-clause-replied g c = rw c.in-Clock.is (λ p s h.
    c.look_clock.ensures.replied p s (map g.W.Watcher.watched c.args.watch.now.items) h)

pub returns-in-Last-clause-replied : goal.returns-in-Last-clause-replied
returns-in-Last-clause-replied g c = rw c.in-Last.is (λ p s h.
    c.look_last.ensures.replied p s (map g.W.Watcher.watched c.args.watch.now.items) h)

pub returns-in-NotALine-clause-replied : goal.returns-in-NotALine-clause-replied
returns-in-NotALine-clause-replied g c = rw c.in-NotALine.is (λ p s h.
    c.not_a_line.ensures.replied p s (map g.W.Watcher.watched c.args.watch.now.items) h)

pub returns-in-NotAProcess-clause-replied : goal.returns-in-NotAProcess-clause-replied
returns-in-NotAProcess-clause-replied g c = rw c.in-NotAProcess.is (λ p s h.
    c.not_a_process.ensures.replied p s (map g.W.Watcher.watched c.args.watch.now.items) h)

pub returns-in-SetBreak-clause-replied : goal.returns-in-SetBreak-clause-replied
returns-in-SetBreak-clause-replied g c = rw c.in-SetBreak.is (λ p s h.
    c.set_break.ensures.replied p s (map g.W.Watcher.watched c.args.watch.now.items) h)

pub returns-in-Clear-clause-replied : goal.returns-in-Clear-clause-replied
returns-in-Clear-clause-replied g c = rw c.in-Clear.is (λ p s h.
    c.clear_break.ensures.replied p s (map g.W.Watcher.watched c.args.watch.now.items) h)
