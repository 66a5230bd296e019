use Rattle.event_list.proofs.NoteGrowth.{notes_front, note_added, note_same}
use Rattle.event_list.proofs.laws.notes_law.Goals as goal

pub returns : goal.returns
returns c = record {
  front = notes_front;
  added = λ M E e notes set id g before kind logged. note_added M E e notes g before set id kind logged;
  same = note_same;
}
