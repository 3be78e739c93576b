-- The limits of a field's values.
use Rattle.std.specs.Prelude.{ℕ, Bool, cond, ◌&&◌, Ok, Err, Result}
use Rattle.fault.specs.declared.cause.Cause.{Cause}
use Rattle.fault.specs.declared.cause.Cause.TheVariants.{ValueOutsideLimits, OffsetTooFar}
use Rattle.fault.specs.declared.cause.Fault.{Fault}
use Rattle.fault.specs.Causes.{fault_at}
use Rattle.job.specs.declared.value.Value.{Value}
use Rattle.job.specs.declared.value.Value.TheVariants.{Limit, Floor, Placed}
use Rattle.job.specs.Shapes.{from_1_to, sled_ok, outgrown}

-- refused where the value is not within its limits
abbrev pub within : Bool → Result (Unit {0}) Cause
within is = cond is (Ok tt) (Err ValueOutsideLimits)

abbrev pub limits_of : Value → Result (Unit {0}) Cause
limits_of (Limit nodes) = within (from_1_to 255 nodes)
limits_of (Floor sides) = within (from_1_to 16 sides.columns && from_1_to 16 sides.rows)
limits_of (Placed sled sides) =
    cond (sled_ok sides.columns sides.rows sled) (cond (outgrown sled.shape sled.skirt) (Err OffsetTooFar) (Ok tt)) (Err ValueOutsideLimits)

abbrev pub refused_at : Result (Unit {0}) Cause → ℕ → Result (Unit {0}) Fault
refused_at (Ok _) at = Ok tt
refused_at (Err cause) at = Err (fault_at cause at)

abbrev pub check_value : Value → ℕ → Result (Unit {0}) Fault
check_value value at = refused_at (limits_of value) at
