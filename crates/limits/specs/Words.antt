-- Each answer in words.
use Rattle.std.specs.Prelude.{ℕ, List, codes}
use Rattle.limits.specs.declared.answer.Answer.{Answer}
use Rattle.limits.specs.declared.answer.Answer.TheVariants.{Done, ZeroSample, BadSample, BadInterval, BadSetting, Singular, NotFinite}

abbrev pub words : Answer → List ℕ
words Done = codes "done"
words ZeroSample = codes "zero sample"
words BadSample = codes "bad sample"
words BadInterval = codes "bad interval"
words BadSetting = codes "bad setting"
words Singular = codes "no inverse"
words NotFinite = codes "not finite"
