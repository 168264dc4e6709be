-- Why a tree of an image is not made.
use Rattle.std.specs.Prelude.{ℕ, Option, Result, Ok, Err}
use Rattle.host_builder.specs.declared.making.BuildFault.{BuildFault}
use Rattle.host_builder.specs.declared.making.BuildFault.TheVariants as builds
use Rattle.image_check.specs.declared.fault.ApplyFault.{ApplyFault}
use Rattle.image_reads.specs.Faults.{store_fault, taker_fault, output_faults_by}
use Rattle.image_extract.specs.declared.fault.ExtractFault.{ExtractFault}
use Rattle.image_extract.specs.declared.fault.ExtractFault.TheVariants as extracts

-- where a tree was not built, and the store told this fault, or none
abbrev pub extract_fault : BuildFault → Option ApplyFault → ExtractFault
extract_fault (builds.NoName path) fault = extracts.NoName path
extract_fault (builds.Builder cause) fault = extracts.Read (taker_fault cause)
extract_fault (builds.Stream cause) fault = extracts.Read (store_fault fault)

-- how making a tree ends that was built so
abbrev pub built_by : Result (Unit {0}) BuildFault → Option ApplyFault → Result (Unit {0}) ExtractFault
built_by (Ok done) fault = Ok tt
built_by (Err cause) fault = Err (extract_fault cause fault)

-- the builder's count of failed calls: one more where the builder is blamed, and only there
abbrev pub extract_faults_by : ExtractFault → ℕ → ℕ
extract_faults_by (extracts.Missing number) count = count
extract_faults_by (extracts.NoName path) count = count
extract_faults_by (extracts.Read fault) count = output_faults_by fault count
