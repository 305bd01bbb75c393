-- What the walk of lookup tells, in the words of the specification's columns.
use Rattle.sam.specs.Columns.{Over, Base, Gap, Off, Spot}
use Rattle.lookup.specs.declared.Over as TheOver
use Rattle.lookup.specs.declared.Over.TheVariants as Code
use Rattle.lookup.specs.declared.Spot as TheSpot

-- what the code's words mean
abbrev pub over_of : TheOver.Over → Over
over_of Code.Base = Base
over_of Code.Gap = Gap
over_of Code.Off = Off

abbrev pub spot_of : TheSpot.Spot → Spot
spot_of s = record { before = s.before; over = over_of s.over }
