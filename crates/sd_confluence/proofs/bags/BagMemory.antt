-- Memories in which a stream is a bag, which knows how often each value waits and in no order. Each container has its width.
use Rattle.std.proofs.Common.{ℕ, zero, suc, pred, List, [], ◌∷◌, ℤ, Option, cond}
use Rattle.sd_num.specs.Width.{wrapped_to}
use Rattle.sd_num.specs.declared.resolution.Resolution.{Resolution}
use Rattle.sd_num.specs.declared.width.Width.{Width}
use Rattle.sd_num.specs.declared.width.Width.TheVariants.{W64}
use Rattle.sd_work.specs.Memory.{Contents, array, stream, Memory, Memories, Reference}
use Rattle.sd_work.specs.Change.{Change, nothing, write, push, take, written, changed_at}
use Rattle.std.specs.Ordering.{int_eq}

pub data Holding : Type 0 where
  cells : (width : Width) → (elements : List ℤ) → Holding
  bag : (width : Width) → (count : ℤ → ℕ) → Holding

abbrev pub Frame : Type 0
Frame = List Holding

abbrev pub Stack : Type 0
Stack = List Frame

-- the member of a list, or another one where there is none
abbrev pub nth : {A : Type 0} → A → ℕ → List A → A
nth other number [] = other
nth other zero (member ∷ members) = member
nth other (suc number) (member ∷ members) = nth other number members

-- what stands where there is no container
abbrev pub nowhere : Holding
nowhere = cells W64 []

abbrev pub on_cells : (Width → List ℤ → List ℤ) → Holding → Holding
on_cells f (cells width elements) = cells width (f width elements)
on_cells f (bag width count) = bag width count

abbrev pub on_bag : (Width → (ℤ → ℕ) → ℤ → ℕ) → Holding → Holding
on_bag f (cells width elements) = cells width elements
on_bag f (bag width count) = bag width (f width count)

abbrev pub add_one_of : ℤ → (ℤ → ℕ) → ℤ → ℕ
add_one_of v f w = cond (int_eq v w) (suc (f w)) (f w)

abbrev pub drop_one_of : ℤ → (ℤ → ℕ) → ℤ → ℕ
drop_one_of v f w = cond (int_eq v w) (pred (f w)) (f w)

abbrev pub count_in : Holding → ℤ → ℕ
count_in (cells width elements) v = 0
count_in (bag width count) v = count v

-- how often a value waits in a stream
abbrev pub held : ℕ → ℕ → ℤ → Stack → ℕ
held l c v s = count_in (nth nowhere c (nth [] l s)) v

-- the arrays of a stack, as leaves and conditions read them
abbrev pub plain_holding : Holding → Contents
plain_holding (cells width elements) = array width elements
plain_holding (bag width count) = stream width []

abbrev pub plain_frame : Frame → Memory
plain_frame [] = []
plain_frame (h ∷ f) = plain_holding h ∷ plain_frame f

abbrev pub plain : Stack → Memories
plain [] = []
plain (f ∷ s) = plain_frame f ∷ plain s

-- what a move changes; a take names its value
pub data Update : Type 0 where
  keep : Update
  put : (to : Reference) → (by : Option Resolution) → (value : ℤ) → Update
  add : (level container : ℕ) → (value : ℤ) → Update
  remove : (level container : ℕ) → (value : ℤ) → Update

abbrev pub updated : Update → Stack → Stack
updated keep s = s
updated (put to by v) s = changed_at to.level (changed_at to.container (on_cells (λ width. changed_at to.element (written width by v)))) s
updated (add l c v) s = changed_at l (changed_at c (on_bag (λ width. add_one_of (wrapped_to width v)))) s
updated (remove l c v) s = changed_at l (changed_at c (on_bag (λ width. drop_one_of v))) s

-- what a leaf changes
abbrev pub update_by : Change → Update
update_by nothing = keep
update_by (write to by value) = put to by value
update_by (push level container value) = add level container value
update_by (take level container position) = keep

-- an update seen from outside the innermost frame
abbrev pub outer_put : ℕ → ℕ → ℕ → Option Resolution → ℤ → Update
outer_put zero c p by v = keep
outer_put (suc l) c p by v = put (record { level = l; container = c; element = p }) by v

abbrev pub outer_update : Update → Update
outer_update keep = keep
outer_update (put to by v) = outer_put to.level to.container to.element by v
outer_update (add zero c v) = keep
outer_update (add (suc l) c v) = add l c v
outer_update (remove zero c v) = keep
outer_update (remove (suc l) c v) = remove l c v

abbrev pub top : Stack → Frame
top [] = []
top (f ∷ s) = f

abbrev pub own_update : Update → Frame → Frame
own_update u f = top (updated u (f ∷ []))
