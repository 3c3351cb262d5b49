-- The marks are those of the area that is selected.
use Rattle.std.proofs.Common.{sym, ap}
use Rattle.journal_compact.specs.declared.places.Selected.{Selected}
use Rattle.journal_compact.specs.Stores.{frame_of, selected_by}
use Rattle.journal_compact.proofs.format.find_format.Goals as goal

pub returns-clause-marked : goal.returns-clause-marked
returns-clause-marked g c =
    let version = c.in_ok-version.version in
    let selector = c.in_ok-selector.selector in
    record {
      frame = frame_of (selected_by selector) version selector;
      is_frame = record { version = version; newer = c.if-version-eq-JOURNAL.false; selector = selector; selects = sym c.by.ensures; is = sym (ap (λ (s : Selected). frame_of s version selector) c.by.ensures) };
      marked = λ image left. (c.in_ok-version.ensures.front image (c.find_selector.ensures.goes.images image left), (c.in_ok-selector.ensures.selector image left, tt));
    }
