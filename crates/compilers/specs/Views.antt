-- Items that borrow their texts from the words of their line.
use Rattle.std.specs.Prelude.{Result, Ok, Err}
use Rattle.compilers.specs.declared.items.ArgParseError.{ArgParseError}
use Rattle.compilers.specs.declared.views.ArgumentView.{ArgumentView}
use Rattle.compilers.specs.declared.views.ArgumentView.TheVariants.{Raw, UnknownFlag, Flag, WithValue}
use Rattle.compilers.specs.Items.{Item, raw, unknown_flag, flag, with_value, faulty}

module _ {T : Type 0} where
  -- the item that a view is
  abbrev pub item_seen : ArgumentView T → Item T
  item_seen (Raw word) = raw word.now
  item_seen (UnknownFlag word) = unknown_flag word.now
  item_seen (Flag text kind) = flag text.now kind
  item_seen (WithValue text kind value form) = with_value text.now kind value.now form

  -- the item that one step of reading gives
  abbrev pub item_viewed : Result (ArgumentView T) ArgParseError → Item T
  item_viewed (Ok view) = item_seen view
  item_viewed (Err error) = faulty
