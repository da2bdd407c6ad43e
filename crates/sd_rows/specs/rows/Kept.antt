-- A row whose effects are kept until they are performed.
use Rattle.std.specs.Prelude.{ℕ, ◌<◌}
use Rattle.sd_graph.specs.TaskletMeaning.{Inputs}
use Rattle.sd_graph.specs.Context.{Context}
use Rattle.sd_tcode.specs.tcode.Compiled.{Compiled}
use Rattle.sd_row.specs.row.Setting.{Setting}
use Rattle.sd_row.specs.declared.instance.accesses.Accesses.{Accesses}
use Rattle.sd_row.specs.instance.Known.{IsSetUp, AreKnown}

-- code that is given this, and where its accesses lead at each point of a row of so many, where places are looked up in this context
pub record IsKeptRow (setting : Setting) (compiled : Compiled) (given : Inputs) (standing : Context) (accesses : Accesses) (count : ℕ) : Type 0 where
  pub set : (k : ℕ) → k < count → IsSetUp setting.tree setting.ins setting.outs compiled given (setting.context k)
  pub known : (k : ℕ) → k < count → AreKnown setting.tree setting.ins setting.outs k (setting.context k) standing accesses
