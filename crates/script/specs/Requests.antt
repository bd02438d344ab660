-- What a line of a script asks for.
use Rattle.std.specs.Prelude.{Bool, cond, List, map, ℕ, get_or, Float, Option, Some, None, option_map, unwrap_or, Result, Ok, Err}
use Rattle.std.specs.Float.{nan, binary64}
use Rattle.std.specs.Float.Ieee.{eq}
use Rattle.floats.specs.Notation.{zero, one}
use Rattle.numbers.specs.Root.{root}
use Rattle.numbers.specs.Sines.{sin, cos, tan}
use Rattle.numbers.specs.Exponential.{exp}
use Rattle.numbers.specs.Arcs.{asin, acos, atan2}
use Rattle.algebra.specs.Vectors.{vector}
use Rattle.algebra.specs.declared.vector.Vector.{Vector}
use Rattle.tilt.specs.declared.types.RestParams.{RestParams}
use Rattle.inertial.specs.declared.types.BiasParams.{BiasParams}
use Rattle.magnetic.specs.declared.types.MagneticParams.{MagneticParams}
use Rattle.vqf.specs.declared.types.Params.{Params}
use Rattle.script.specs.Lines.{is_complete, missing}
use Rattle.script.specs.declared.names.Name.{Name}
use Rattle.script.specs.declared.names.Name.TheVariants as names
use Rattle.script.specs.declared.line.Fault.{Fault}
use Rattle.script.specs.declared.line.Line.{Line}
use Rattle.script.specs.declared.request.Construction.{Construction}
use Rattle.script.specs.declared.request.Samples.{Samples}
use Rattle.script.specs.declared.request.Call.TheVariants as calls
use Rattle.script.specs.declared.request.Request.{Request}
use Rattle.script.specs.declared.request.Request.TheVariants as requests

-- ---- a word, by its place behind the name, counted from 0
abbrev value : List Float → ℕ → Float
value values i = get_or values i nan

abbrev vector_at : List Float → ℕ → ℕ → ℕ → Vector
vector_at values i j k = vector (value values i) (value values j) (value values k)

abbrev pub switch : Float → Bool
switch x = eq x (one binary64)

-- ---- the settings, in the order of the source
abbrev pub rest_params : List Float → RestParams
rest_params values = record {
  rest_bias_est_enabled = switch (value values 6);
  mag_dist_rejection_enabled = switch (value values 7);
  bias_clip = value values 10;
  rest_min_t = value values 14;
  rest_filter_tau = value values 15;
  rest_th_gyr = value values 16;
  rest_th_acc = value values 17;
}

abbrev pub bias_params : List Float → BiasParams
bias_params values = record {
  motion_bias_est_enabled = switch (value values 5);
  bias_sigma_init = value values 8;
  bias_forgetting_time = value values 9;
  bias_sigma_motion = value values 11;
  bias_vertical_forgetting_factor = value values 12;
  bias_sigma_rest = value values 13;
}

abbrev pub magnetic_params : List Float → MagneticParams
magnetic_params values = record {
  tau_mag = value values 4;
  mag_current_tau = value values 18;
  mag_ref_tau = value values 19;
  mag_norm_th = value values 20;
  mag_dip_th = value values 21;
  mag_new_time = value values 22;
  mag_new_first_time = value values 23;
  mag_new_min_gyr = value values 24;
  mag_min_undisturbed_time = value values 25;
  mag_max_rejection_time = value values 26;
  mag_rejection_factor = value values 27;
}

abbrev pub params : List Float → Params
params values = record {
  inertial = record { tau_acc = value values 3; rest = rest_params values; bias = bias_params values };
  magnetic = magnetic_params values;
}

abbrev pub settings : Bool → List Float → Option Params
settings is_house values = cond is_house None (Some (params values))

-- ---- by its name
-- the words behind the name as numbers; where none was given, 0
abbrev pub numbers : List (Option Float) → List Float
numbers values = map (λ x. unwrap_or x (zero binary64)) values

abbrev given : List (Option Float) → ℕ → Option Float
given values i = get_or values i None

abbrev pub construction : Line → Construction
construction l = record {
  gyr_ts = value (numbers l.values) 0;
  acc_ts = given l.values 1;
  mag_ts = given l.values 2;
  settings = settings l.is_house (numbers l.values);
}

abbrev pub samples : Line → Samples
samples l = record {
  gyr = vector_at (numbers l.values) 0 1 2;
  acc = vector_at (numbers l.values) 3 4 5;
  mag = option_map (λ x. vector x (value (numbers l.values) 7) (value (numbers l.values) 8)) (given l.values 6);
}

abbrev named : Line → Name → Float → Float → Vector → Request
named l names.New x y v = requests.Call (calls.New (construction l))
named l names.Gyr x y v = requests.Call (calls.Gyr v)
named l names.GyrTs x y v = requests.Call (calls.GyrWithTs v (value (numbers l.values) 3))
named l names.Acc x y v = requests.Call (calls.Acc v)
named l names.Mag x y v = requests.Call (calls.Mag v)
named l names.Upd x y v = requests.Update (samples l)
named l names.TauAcc x y v = requests.Call (calls.TauAcc x)
named l names.TauMag x y v = requests.Call (calls.TauMag x)
named l names.Motion x y v = requests.Call (calls.Motion (switch x))
named l names.Rest x y v = requests.Call (calls.Rest (switch x))
named l names.Dist x y v = requests.Call (calls.Dist (switch x))
named l names.Th x y v = requests.Call (calls.Thresholds x y)
named l names.Bias x y v = requests.Call (calls.Bias v (given l.values 3))
named l names.MagRef x y v = requests.Call (calls.MagRef x y)
named l names.Reset x y v = requests.Call calls.Reset
named l names.State x y v = requests.State
named l names.Get x y v = requests.Get
named l names.Sqrt x y v = requests.Value (root binary64 x)
named l names.Sin x y v = requests.Value (sin binary64 x)
named l names.Cos x y v = requests.Value (cos binary64 x)
named l names.Tan x y v = requests.Value (tan x)
named l names.Exp x y v = requests.Value (exp binary64 x)
named l names.Asin x y v = requests.Value (asin binary64 x)
named l names.Acos x y v = requests.Value (acos binary64 x)
named l names.Atan2 x y v = requests.Value (atan2 binary64 x y)

abbrev pub asked : Line → Name → Request
asked l name = named l name (value (numbers l.values) 0) (value (numbers l.values) 1) (vector_at (numbers l.values) 0 1 2)

-- ---- what a line asks for once it has ended
abbrev ended : Line → Option Fault → Option Name → Result (Option (Name × Request)) Fault
ended l (Some fault) name = Err fault
ended l None None = Ok None
ended l None (Some name) = cond (is_complete l name) (Ok (Some (name, asked l name))) (Err (missing l))

abbrev pub request : Line → Result (Option (Name × Request)) Fault
request l = ended l l.fault l.name
