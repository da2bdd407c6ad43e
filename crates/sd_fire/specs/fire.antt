pub use Rattle.sd_fire.specs.advance.Right
