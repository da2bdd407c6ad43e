-- The texts of a place and of a fault.
use Rattle.std.specs.Prelude.{ℕ, ℤ, List, [], ◌∷◌, ◌++◌, codes}
use Rattle.std.specs.List.{flat_map}
use Rattle.std.specs.Fmt.{decimal, signed_decimal}
use Rattle.sd_work.specs.declared.fault.FaultKind.{FaultKind}
use Rattle.sd_work.specs.declared.fault.FaultKind.TheVariants.{Division, Subscript}
use Rattle.sd_graph.specs.declared.place.Frame.{Frame}
use Rattle.sd_graph.specs.declared.place.Place.{Place}

-- a variable with its value
abbrev pub value_text : (name : List ℕ) → ℤ → List ℕ
value_text name value = name ++ codes "=" ++ signed_decimal value

-- behind a line the variables in force there, joined by commas; nothing where there are none
abbrev pub values_text : List (List ℕ × ℤ) → List ℕ
values_text [] = []
values_text (value ∷ values) = codes ": " ++ value_text value.0 value.1 ++ flat_map (λ other. codes ", " ++ value_text other.0 other.1) values

abbrev pub frame_text : Frame → List ℕ
frame_text frame = codes "line " ++ decimal frame.line ++ values_text frame.values

-- frames, the outermost first, joined by ` > `
abbrev pub frames_text : List Frame → List ℕ
frames_text [] = []
frames_text (frame ∷ frames) = frame_text frame ++ flat_map (λ other. codes " > " ++ frame_text other) frames

abbrev pub place_text : Place → List ℕ
place_text place = frames_text place.frames

abbrev pub kind_word : FaultKind → List ℕ
kind_word Division = codes "division"
kind_word Subscript = codes "subscript"

abbrev pub fault_text : Place → FaultKind → List ℕ
fault_text place kind = codes "fault " ++ kind_word kind ++ codes " at " ++ place_text place
