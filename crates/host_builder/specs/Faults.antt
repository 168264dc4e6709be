-- Why a tree is not made.
use Rattle.std.specs.Prelude.{Option, Some, None}
use Rattle.store_model.specs.Paths.{Path}
use Rattle.dump_streams.specs.declared.draining.DrainFault.{DrainFault}
use Rattle.dump_streams.specs.declared.draining.DrainFault.TheVariants as drains
use Rattle.host_builder.specs.declared.making.BuildFault.{BuildFault}
use Rattle.host_builder.specs.declared.making.BuildFault.TheVariants as builds

-- where steps were not all taken: the stream is blamed, or the obstacle that was met, or the builder
abbrev pub build_fault : DrainFault → Option Path → BuildFault
build_fault (drains.Stream fault) obstacle = builds.Stream fault
build_fault (drains.Taker fault) None = builds.Builder fault
build_fault (drains.Taker fault) (Some path) = builds.NoName path
