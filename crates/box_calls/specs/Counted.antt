-- What a builder tells that counts for itself what is left out.
use Rattle.std.specs.Prelude.{ℕ}
use Rattle.host_builder.specs.Builders.{BuilderState}

-- what another builder tells, but with this count of what was left out
abbrev pub counted_state : BuilderState → ℕ → BuilderState
counted_state builder left_out = record {
  is_observable = builder.is_observable;
  holds = builder.holds;
  has_links = builder.has_links;
  faults = builder.faults;
  left_out = left_out;
}
