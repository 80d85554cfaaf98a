-- The width of the depths in a sortable key.
use Rattle.std.specs.Int.{Width, w8, w16}
use Rattle.jsonb_raw.specs.declared.sortable_key.DepthWidth.{DepthWidth}
use Rattle.jsonb_raw.specs.declared.sortable_key.DepthWidth.TheVariants.{OneByte, TwoBytes}

abbrev pub width_of : DepthWidth → Width
width_of OneByte = w8
width_of TwoBytes = w16
