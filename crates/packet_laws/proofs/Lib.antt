mod HeadersReadBack
mod CodewordsReadBack
pub mod PacketsReadBack
mod PicturePackets
