-- What is known of a reader of the lines of a source, from which no byte was taken before.
use Rattle.std.specs.Prelude.{◌≡◌, ◌+◌, ◌<◌, ◌≤◌, true, false, [], drop, length}
use Rattle.store_base.specs.Counts.{raised}
use Rattle.store_model.specs.Scripts.{script_limit}
use Rattle.script_lines.specs.SourceState.{SourceState, IsObservable}
use Rattle.script_lines.specs.LineState.{LineState, Takes, left}
use Rattle.dump_streams.specs.declared.fault.StreamFault.{StreamFault}
use Rattle.dump_streams.specs.declared.fault.StreamFault.TheVariants as faults

-- a reader of the lines of a source from which no byte was taken
abbrev pub fresh_lines : {R : Type 0} → R → LineState R
fresh_lines source = record {
  source = source;
  held = [];
  taken = 0;
  limit = script_limit;
  is_ended = false;
  is_live = true;
  text = [];
}

module _ {R : Type 0} (source_of : R → SourceState) (first : R) (lines : LineState R) where
  -- No take failed, and no more was taken than a script may have.
  pub record IsReading : Type 0 where
    pub live : lines.is_live ≡ true
    pub limit : lines.limit ≡ script_limit
    pub in_limit : lines.taken ≤ script_limit
    pub observable : (source_of lines.source).is_observable ≡ (source_of first).is_observable
    pub faults : (source_of lines.source).faults ≡ (source_of first).faults
    pub takes : IsObservable (source_of first) → Takes source_of (fresh_lines first) lines

  -- So it was to the end of the source, where nothing is left of it.
  pub record IsReadOut : Type 0 where
    pub reading : IsReading
    pub none_left : IsObservable (source_of first) → left source_of lines ≡ []

  -- The last take failed, and no other.
  pub record IsUnreadable : Type 0 where
    pub in_limit : lines.taken ≤ script_limit
    pub observable : (source_of lines.source).is_observable ≡ (source_of first).is_observable
    pub faults : (source_of lines.source).faults ≡ raised (source_of first).faults
    pub takes : IsObservable (source_of first) → Takes source_of (fresh_lines first) lines

  -- No take failed, and the source has more bytes than a script may have, of which so many were taken and one more.
  pub record IsOverLong : Type 0 where
    pub observable : (source_of lines.source).is_observable ≡ (source_of first).is_observable
    pub faults : (source_of lines.source).faults ≡ (source_of first).faults
    pub longer : IsObservable (source_of first) → script_limit < length (source_of first).left
    pub left_is : IsObservable (source_of first)
        → left source_of lines ≡ drop (script_limit + 1) (source_of first).left

  -- reading the lines ended by this fault
  abbrev pub StopsReading : StreamFault → Type 0
  StopsReading faults.Unreadable = IsUnreadable
  StopsReading faults.TooLong = IsOverLong
  StopsReading faults.NoDump = ⊥
  StopsReading faults.NoMemory = ⊥
